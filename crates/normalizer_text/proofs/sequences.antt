-- Well-formed UTF-8 sequences.
pub mod MatchLemmas
pub mod RowLemmas
pub mod ScalarLemmas
pub mod SequenceLemmas
pub mod Sequences
pub mod SubpartLemmas
