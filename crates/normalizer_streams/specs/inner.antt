-- What the contracts of private functions alone cite.
pub mod Agreements
pub mod Errors
pub mod LineMoves
pub mod Moves
pub mod Watches
