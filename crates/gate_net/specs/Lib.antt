pub mod Rows
pub mod Net
pub mod Order
pub mod Values
pub mod Entries
