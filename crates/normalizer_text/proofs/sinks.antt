-- Sinks and outputs.
pub mod CharacterLemmas
pub mod CheckSinkLemmas
