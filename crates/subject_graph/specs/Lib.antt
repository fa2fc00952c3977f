pub mod Nodes
pub mod Index
pub mod Steps
pub mod Tables
pub mod Laws
pub mod Answers
