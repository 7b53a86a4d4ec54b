-- The rules of the encodings.
pub mod Decoding
pub mod EncodingLemmas
pub mod EncodingRules
pub mod StdLemmas
pub mod StrLemmas
pub mod Utf16Lemmas
pub mod Utf8Lemmas
