-- The forms as wholes.
pub mod AlikeReadings
pub mod EquivalenceLemmas
pub mod LawLemmas
pub mod ListLemmas
pub mod TextLemmas
