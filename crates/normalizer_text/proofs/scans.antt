-- Units below a bound, and characters that pass.
pub mod GroupLemmas
pub mod LowLemmas
pub mod PairedLemmas
pub mod PassingLemmas
pub mod ScanLemmas
