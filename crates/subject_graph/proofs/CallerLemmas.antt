-- What the crates above cite: the inputs of a design's graph.
pub use Rattle.subject_graph.proofs.GraphInputs.{subject_of-inputs}
