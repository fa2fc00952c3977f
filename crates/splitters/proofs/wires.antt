pub mod Steps
pub mod Inputs
pub mod Growth
pub mod Count
pub mod Elements
