pub mod Parts
pub mod PhysicalLines
pub mod LogicalLines
pub mod Separators
