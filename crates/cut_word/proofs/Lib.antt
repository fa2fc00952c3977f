mod TableBits
mod Tables
mod WordParts
mod Unions
mod Places
mod MergeSteps
pub mod CallerLemmas
mod MergeTables
mod WordForms
mod Examples
mod ThreeSteps
