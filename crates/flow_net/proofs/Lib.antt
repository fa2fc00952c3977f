mod NetworkLemmas
mod UseLemmas
mod NumberLemmas
mod BalancedEpochs
mod Lengths
mod DriverNumbers
mod Sums
mod Potentials
mod LaidNets
mod FullFlows
mod Duality
pub mod CallerLemmas
mod Examples
