-- The cut and the first mismatch.
pub mod AppendLemmas
pub mod CutLemmas
pub mod OffenceLemmas
pub mod PlaceLemmas
