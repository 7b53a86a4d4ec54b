-- Passthrough characters.
pub mod PassthroughClasses
pub mod PassthroughItemLemmas
