pub mod CallerLemmas
mod Examples
