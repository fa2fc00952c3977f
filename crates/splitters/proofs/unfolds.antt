pub mod Wires
pub mod Chains
pub mod Gates
pub mod Inputs
pub mod Whole
