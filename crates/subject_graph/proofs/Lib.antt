pub mod CallerLemmas
mod Examples
mod GraphInputs
pub mod Places
pub mod Links
pub mod Formed
pub mod Steps
pub mod Growth
pub mod Makes
pub mod Halves
pub mod Drawing
pub mod Loops
pub mod Meanings
