pub mod CallerLemmas
mod Claimants
mod CoreRows
mod Examples
mod Histories
mod Soundness
mod States
