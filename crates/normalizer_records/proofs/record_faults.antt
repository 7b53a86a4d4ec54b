-- Faults of records.
pub mod LookupLemmas
pub mod PairFaultLemmas
pub mod RefusalLemmas
pub mod FirstLemmas
pub mod ShownLemmas
pub mod EntryLemmas
