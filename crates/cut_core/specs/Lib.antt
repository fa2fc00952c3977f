pub mod Cores
pub mod Laws
pub mod Machine
pub mod Sound
