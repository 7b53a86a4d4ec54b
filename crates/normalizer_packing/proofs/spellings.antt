-- Spellings that are kept beside entries.
pub mod KeptSpellings
