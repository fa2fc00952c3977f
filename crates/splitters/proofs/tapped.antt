pub mod Taps
pub mod Table
pub mod Takers
pub mod PinCount
