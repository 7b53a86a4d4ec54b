-- Segments that stay as they are.
pub mod ApartLemmas
pub mod KeptLemmas
pub mod LeftLemmas
