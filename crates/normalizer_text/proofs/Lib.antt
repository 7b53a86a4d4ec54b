pub mod steps
pub mod rules
pub mod sequences
pub mod scans
pub mod sinks
pub mod inputs
