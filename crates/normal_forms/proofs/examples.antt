-- The readings of the examples.
pub mod LawfulExample
pub mod UnfaithfulExample
