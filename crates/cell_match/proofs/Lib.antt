pub mod CallerLemmas
mod Examples
mod Steps
