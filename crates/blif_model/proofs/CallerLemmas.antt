-- The lemmas that other crates cite: designs whose order nothing refuses, tables in order and their values, what drives a
-- signal, levels, and lists of signals in which none stands twice.
pub use Rattle.blif_model.proofs.Orders.{IsOrdered, ordered-from_Ok, level_at, level_at-is, level-bounds, listed, listed-below, listed-once, pins-before}
pub use Rattle.blif_model.proofs.Values.{map-same, with_targets-append, with_targets-other, tables_at-around, input-no_target, value-between, values_follow_tables, inputs_have_bits, values_are_determined}
pub use Rattle.blif_model.proofs.Tables.{IsListed, find-none, driven_twice-None, target-among, target-at, target-place, driver_of-target, one_place, pin-among, target-listed, listed-target, distinct-listed}
pub use Rattle.blif_model.proofs.Walks.{largest-ge, largest-same, HasNoCycle, leads-push, driver_of-Some, level_of-driven, level_of-undriven, level_within-le, no_cycle-from_find}
pub use Rattle.blif_model.proofs.Cycles.{cycles_are_found}
pub use Rattle.blif_model.proofs.Levels.{split_at, stands_between, distinct-filter, distinct-range, with_key, is_among-with_key, is_among-by_key, key-is_among, distinct-by_key, lower-before}
pub use Rattle.blif_model.proofs.Signals.{list_any-weaker, list_any-some, list_any-among, list_any-none, is_among-range, range-bounds, distinct-cons, distinct-head, distinct-append, distinct-parts, distinct-second}
