pub mod Buffers
pub mod Calls
pub mod Characters
pub mod Mismatches
pub mod Overwriting
pub mod Taken
