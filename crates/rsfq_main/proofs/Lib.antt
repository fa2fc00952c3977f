pub mod KeyWords
pub mod Refusals
pub mod NetlistRefusals
pub mod Certificates
pub mod Asking
pub mod Made
pub mod Passing
pub mod Noted
mod Examples
mod NoteExamples
