-- Ranges of numbers with one word.
pub mod ConsecutiveRanges
pub mod ConstantWords
