pub mod Formula
pub mod Laws
pub mod Least
pub mod Levels
pub mod Steps
