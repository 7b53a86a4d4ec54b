-- Full decomposition and canonical order.
pub mod ExpandLemmas
pub mod OrderLemmas
pub mod SortedRuns
