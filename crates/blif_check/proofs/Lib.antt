pub mod Examples
pub mod FirstFound
pub mod DriverPlaces
pub mod Reached
pub mod LevelsFound
pub mod ListsByLevel
pub mod RanksRise
pub mod Refusals
