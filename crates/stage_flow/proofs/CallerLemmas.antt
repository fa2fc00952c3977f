-- The lemmas that other crates cite, from the files in which they are proved.
-- ---- Walks and labels
pub use Rattle.stage_flow.proofs.Walks.{IsNoBetter, no_better-test, test-no_better, no_better-same, no_better-through, both, reach-same, reach-tied, walk-push, reach_of-push, hops-is_length}
pub use Rattle.stage_flow.proofs.Best.{the_best_is_attained, no_walk_is_better}
pub use Rattle.stage_flow.proofs.Labels.{walk-fits, tight-from_same, same-from_tight, tight-nearer, tight_walk-nearer, tight_walk-push, tight_walk-short, IsLow, each_is_served, labels-for, wanting-low, hops-below}
pub use Rattle.stage_flow.proofs.LabelBounds.{labels_are_best, labels_are_determined, IsShort, ways-short, far-within_hops}
-- ---- Labels by a search
pub use Rattle.stage_flow.proofs.Slacks.{raised, raised-fits, slack, AreDistances, far_by, far_by-fits, far_by-nothing, far_by-level, level-far_by}
pub use Rattle.stage_flow.proofs.Depths.{searches_give_labels}
-- ---- A round
pub use Rattle.stage_flow.proofs.Receiver.{best_to-fits, best_to-in_layer, in_layer-from_best, receiver-is}
pub use Rattle.stage_flow.proofs.Path.{last_way-is, path_to-next, path_to-is_tight, path_from-is_tight}
pub use Rattle.stage_flow.proofs.Units.{arc-same, arc-low, units_on-along, units_on-others, length-along}
pub use Rattle.stage_flow.proofs.Along.{IsWayOn, way-on, adding-in, taking-in, kept-sent, potentials-sent, labels-sent}
pub use Rattle.stage_flow.proofs.Ends.{numbers-apart, tight-kept, units_on-sent, units_on-unsent}
pub use Rattle.stage_flow.proofs.OutMinusIn.{out_minus_in-along, out_minus_in-sent}
pub use Rattle.stage_flow.proofs.Round.{ways-low, fits-labelled, level-tight, sender-low, the_best_to_a_layer, the_receiver_is_least, the_last_way_is_least, rounds_go_by_labels}
-- ---- What the laws ask of a network
pub use Rattle.stage_flow.proofs.NetworkEnds.{IsPinLow, ends-are_vertices, network-pins_low, network-ends}
pub use Rattle.stage_flow.proofs.Wanting.{wants-mirror, no_way_leaves_wanting}
-- ---- That there are labels
pub use Rattle.stage_flow.proofs.ShortWalks.{best_to-of_all}
pub use Rattle.stage_flow.proofs.LabelsExist.{receiver_reach, receiver_far, receiver_hops, receiver_reach-best, best-labels, receiver-labels, labels-exist}
pub use Rattle.stage_flow.proofs.RoundLabels.{sender-wanted, labels-exist_in_rounds, rounds-labels, rounds-are_full, fewest-exist}
-- ---- Labels from the source
pub use Rattle.stage_flow.proofs.SourceLabelsExist.{source_labels-exist}
pub use Rattle.stage_flow.proofs.LeastEpochsExist.{least-exist}
-- ---- What was sent
pub use Rattle.stage_flow.proofs.RoundsSent.{rounds-sent}
