-- Entries, and the data that they are packed into.
pub mod EntryLemmas
pub mod PackingLemmas
