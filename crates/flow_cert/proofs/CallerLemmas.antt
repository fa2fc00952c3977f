-- The lemmas that other crates cite, from the files in which they are proved.
pub use Rattle.flow_cert.proofs.Bounds.{network-bounded}
pub use Rattle.flow_cert.proofs.Meaning.{a_yes-fewest, network-yes}
pub use Rattle.flow_cert.proofs.FullFlows.{full_flows-yes}
