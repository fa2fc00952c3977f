pub mod Cut
pub mod Forms
pub mod Laws
pub mod Merge
pub mod Steps
pub mod Order
pub mod Table
pub mod Word
