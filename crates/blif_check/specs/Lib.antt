pub mod Check
pub mod Lookup
pub mod Cycles
pub mod Levels
