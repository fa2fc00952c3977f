pub mod CallerLemmas
mod CleanTokens
mod Examples
mod FaultRows
mod LinesRead
mod SoundStates
mod SpelledDesigns
mod SpelledExamples
pub mod SpelledLines
mod SpelledNames
mod SpelledSteps
mod SpelledTokens
mod TokenSteps
mod WordLengths
