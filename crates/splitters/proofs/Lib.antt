pub mod CallerLemmas
mod Trees
mod tapped
mod wires
mod dros
mod valid
mod unfolds
mod ChainsCanBeSplit
mod SplitMeans
mod Examples
