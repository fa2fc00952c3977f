-- What the crates above cite: how many elements there are.
pub use Rattle.splitters.proofs.wires.Elements.{elements-few}
