pub mod Levels
pub mod Stages
