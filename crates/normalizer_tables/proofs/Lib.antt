pub mod code_points
pub mod words
pub mod lists
pub mod composites
pub mod conditions
pub mod syllables
