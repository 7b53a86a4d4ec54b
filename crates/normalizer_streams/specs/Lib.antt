pub mod IllFormed
pub mod Mismatches
pub mod Positions
pub mod Replies
pub mod Streams
pub mod inner
