-- Segments in buffers.
pub mod BufferedSegments
pub mod SegmentLemmas
