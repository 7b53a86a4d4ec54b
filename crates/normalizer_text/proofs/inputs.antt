-- Encoded forms, cuts and first mismatches of inputs.
pub mod EncodedFormLemmas
pub mod InputBoundaryLemmas
pub mod InputCutLemmas
pub mod InputEncodingLemmas
pub mod InputExamples
pub mod InputOffenceLemmas
