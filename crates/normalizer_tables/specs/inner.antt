-- What the contracts of private functions alone cite.
pub mod Blocks
pub mod Buckets
pub mod Members
pub mod PassingWords
pub mod Seconds
