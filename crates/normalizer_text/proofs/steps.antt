-- Decoding step by step, by any rule.
pub mod BackLemmas
pub mod StepBoundaries
pub mod StepLemmas
