-- Chains of records and expansion.
pub mod ChainLemmas
pub mod ExpansionLemmas
pub mod ReplacedLemmas
