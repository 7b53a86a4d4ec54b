-- What the contracts of private functions alone cite.
pub mod Chains
pub mod CutLists
pub mod EntryFaults
pub mod Findings
pub mod Lookup
pub mod SortedPairs
