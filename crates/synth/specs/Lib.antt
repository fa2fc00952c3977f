pub mod Clocking
pub mod Counts
pub mod Faults
pub mod Meaning
pub mod Synth
pub mod Laws
