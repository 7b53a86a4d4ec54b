-- Words and their flags.
pub mod FlagLemmas
pub mod SpelledWords
pub mod StoredSteps
