pub mod Verdicts
pub mod Meaning
pub mod Sums
