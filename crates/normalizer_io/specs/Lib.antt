pub mod Replacing
pub mod Transfer
