-- What the crates above cite: the laws on needed nodes and on gates, and what the gates of a subject have.
pub use Rattle.balance_map.proofs.NeededNodes.{needed_nodes_are_needed}
pub use Rattle.balance_map.proofs.CoverLaws.{covers_are_nets, covers_keep_values, few-gates, gates_of-net, gates_of-used, gates_of-values}
