pub mod FanOuts
pub mod Choices
pub mod Steps
pub mod Needed
pub mod Cover
pub mod Walks
pub mod Laws
