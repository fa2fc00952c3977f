pub mod Spelling
pub mod Lines
pub mod Faults
pub mod Read
pub mod Laws
pub mod Scanning
pub mod Parsing
