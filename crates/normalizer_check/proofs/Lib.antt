pub mod words
pub mod composites
pub mod conditions
pub mod syllables
