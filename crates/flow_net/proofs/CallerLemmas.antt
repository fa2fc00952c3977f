-- The lemmas that other crates cite, from the files in which they are proved.
pub use Rattle.flow_net.proofs.NetworkLemmas.{use_drivers-are-pin_drivers, length-uses_of, is_used-uses_of, used_below-le, gates-le-uses, length-uses_of-le, sum-chain_lengths, dro_count-le, earliest_gates-le, earliest_sink-le, earliest_sink-unused, length-earliest_gates, earliest_stages-are-levels, length-chain_lengths}
pub use Rattle.flow_net.proofs.NumberLemmas.{used_below-le-uses}
pub use Rattle.flow_net.proofs.DriverNumbers.{uses-numbered, drivers_are_numbered, driver_number-same}
pub use Rattle.flow_net.proofs.Duality.{rise-is_count, value-le_count, weak-duality, gathered}
pub use Rattle.flow_net.proofs.Potentials.{IsLaid, home, potential, potential-vertex, potential-mirror, Rises, potentials-rise, value-le_rise, home-low, All-arcs_from}
pub use Rattle.flow_net.proofs.LaidNets.{input-below, use-laid, network-laid, weights-few, users-low}
pub use Rattle.flow_net.proofs.Sums.{total, below, exchanged, sum-is_total}
pub use Rattle.flow_net.proofs.BalancedEpochs.{All-gate_uses}
pub use Rattle.flow_net.proofs.FullFlows.{wants-gate, wants-sink}
