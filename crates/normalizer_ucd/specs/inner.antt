-- What the contracts of private functions alone cite.
pub mod DataFileLines
pub mod Lines
pub mod TableLines
