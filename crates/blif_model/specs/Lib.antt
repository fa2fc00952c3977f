pub mod Names
pub mod Regular
pub mod Values
pub mod Order
pub mod Laws
