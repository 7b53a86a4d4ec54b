-- Canonical composition.
pub mod BlockedLemmas
pub mod ComposeLemmas
pub mod CompositionOfMarks
pub mod InsertedCharacter
pub mod VisitLemmas
