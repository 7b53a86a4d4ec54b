-- What the contracts of private functions alone cite.
pub mod Earlier
pub mod Parts
pub mod Ranges
