-- What the contracts of private functions alone cite.
pub mod Chunk
pub mod MarkReads
pub mod PassthroughItems
pub mod ReadingOn
pub mod Segments
