-- Runs of passthrough characters.
pub mod ClassReadings
pub mod PassthroughLemmas
pub mod RunParts
