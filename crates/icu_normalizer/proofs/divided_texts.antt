-- Forms of the parts of a text that line feeds divide.
pub mod LineFeedBytes
pub mod LineFeedLemmas
pub mod PartLemmas
