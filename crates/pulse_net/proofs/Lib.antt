pub mod CallerLemmas
pub mod UnfoldedNetwork
mod InsertedWires
mod RelatedWires
mod WiresMadeOnce
mod UnbrokenIsWired
mod LeastUnusedIsNamed
mod PulsesAreRowValues
mod UnfoldedGateCount
mod PulsesAreGateValues
mod UnfoldsItsDros
mod StagesAndDrosFollowDepths
mod UnfoldedElements
mod EachGateIsUsed
mod UsesInTime
mod UsesAreBalanced
mod BalancedUnfolding
mod Examples
mod UnfoldExamples
mod MajorityExamples
