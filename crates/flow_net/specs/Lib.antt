pub mod Uses
pub mod Network
pub mod Epochs
pub mod Arcs
pub mod Flows
pub mod DriverNumbers
pub mod Duality
-- the crates that reach phases through this one find their definitions here
pub use Rattle.phase_rule.specs.Levels
pub use Rattle.phase_rule.specs.declared.level.TheConstants
