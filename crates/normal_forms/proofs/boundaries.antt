-- Where a text may be divided or read in parts.
pub mod BoundaryLemmas
pub mod ChunkLemmas
