mod Bounds
mod Balances
mod Sending
mod Meaning
mod FullFlows
pub mod CallerLemmas
mod Examples
