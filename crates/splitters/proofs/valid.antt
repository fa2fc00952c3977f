pub mod Multiplicity
pub mod Frontier
pub mod Pins
pub mod Chains
pub mod Gates
pub mod Inputs
pub mod Whole
pub mod Timing
