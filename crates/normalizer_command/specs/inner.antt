-- What the contracts of private functions alone cite.
pub mod EachLine
pub mod Kept
pub mod Known
pub mod Writes
