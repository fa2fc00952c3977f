pub mod Counts
pub mod Source
pub mod Sink
pub mod MemSource
pub mod MemSink
pub mod ReadAll
pub mod WriteAll
