mod AllHeads
pub mod CallerLemmas
mod CellTables
mod Depths
mod Examples
mod LeastOfAll
mod LevelLists
mod Meanings
mod Members
mod Noting
mod Order
mod WalkSteps
mod Walked
