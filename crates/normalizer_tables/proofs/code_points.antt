-- Tables of code points, in blocks and of ranges.
pub mod BlockCounts
pub mod BlockEquality
pub mod BlockLemmas
pub mod BlockBytes
pub mod NextInBlocks
pub mod NextWords
pub mod RangeLists
pub mod StoredParts
pub mod Tables
pub mod WordsInRanges
