pub mod Laid
pub mod Count
pub mod Lengths
