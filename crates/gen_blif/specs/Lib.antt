pub mod Lines
pub mod Random
pub mod RippleCarry
