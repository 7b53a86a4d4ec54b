-- What iterators yield.
pub mod DecompositionLemmas
pub mod FallibleRuns
pub mod ItemLemmas
pub mod LongRuns
pub mod ProgressLemmas
pub mod ToComeLemmas
