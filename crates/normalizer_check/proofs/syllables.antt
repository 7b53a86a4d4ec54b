-- Hangul.
pub mod SyllableLemmas
