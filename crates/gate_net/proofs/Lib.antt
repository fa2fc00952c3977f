pub mod Places
pub mod CallerLemmas
pub mod RowLemmas
pub mod OrderLemmas
