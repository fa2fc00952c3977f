pub mod Name
pub mod Answers
pub mod Keys
pub mod PerItem
pub mod Graph
pub mod NodeValues
