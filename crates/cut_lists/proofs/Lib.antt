pub mod CallerLemmas
mod Examples
mod Kept
mod NodeLists
mod NodeRows
mod Pools
mod Rights
mod RowWords
mod Sorts
