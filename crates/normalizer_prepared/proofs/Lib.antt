pub mod Loops
pub mod RunRanges
pub mod SameData
pub mod SameFile
