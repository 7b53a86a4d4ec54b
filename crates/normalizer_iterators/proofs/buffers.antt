-- Buffered characters.
pub mod ByClassLemmas
pub mod SortedByClassLemmas
pub mod SortedMarkLemmas
pub mod WaitingLemmas
