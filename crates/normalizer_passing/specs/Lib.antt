pub mod LowBounds
pub mod PassBytes
pub mod inner
