-- Hangul.
pub mod HangulLemmas
pub mod SyllableJamo
