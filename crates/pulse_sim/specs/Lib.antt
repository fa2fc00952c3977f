pub mod Rows
pub mod Sites
pub mod Simulators
pub mod Laws
pub mod Reading
pub mod Running
pub mod Roots
pub mod Wakes
