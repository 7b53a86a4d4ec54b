-- What the contracts of private functions alone cite.
pub mod Backwards
pub mod Groups
pub mod Trails
