pub mod CallerLemmas
mod AddedKeys
mod Lists
pub mod Nodes
