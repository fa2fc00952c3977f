pub mod Named
pub mod Random
pub mod RippleCarry
