-- Packed data read to what the entries say.
pub mod DataReadBack
pub mod WordsReadBack
