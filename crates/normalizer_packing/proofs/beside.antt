-- Characters that the mapper disallows, packed as ranges beside entries.
pub mod BesideLemmas
pub mod BesidePacking
pub mod BesideWords
