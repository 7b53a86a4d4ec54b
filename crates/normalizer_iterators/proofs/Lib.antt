pub mod buffers
pub mod reads
pub mod passthrough
pub mod composing
pub mod items
pub mod segments
