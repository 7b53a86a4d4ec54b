-- What the contracts of private functions alone cite.
pub mod Beside
pub mod Kinds
pub mod PackedWords
pub mod Spelled
pub mod Stores
pub mod Breakpoints
