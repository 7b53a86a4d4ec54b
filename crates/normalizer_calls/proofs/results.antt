-- Results of checks and owned forms.
pub mod CheckLemmas
pub mod ItemsSoFar
pub mod OwnedLemmas
pub mod QualifyingLemmas
pub mod TextAnswers
pub mod Utf32Lemmas
