-- Reading up to a boundary.
pub mod LazyLemmas
pub mod PlainWords
pub mod ReadingLemmas
pub mod ReadsOfSoundData
