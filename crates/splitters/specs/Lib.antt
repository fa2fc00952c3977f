pub mod Spread
pub mod Taps
pub mod Table
pub mod Elements
pub mod Laws
