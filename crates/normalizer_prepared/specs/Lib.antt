pub mod Files
pub mod Prepared
pub mod Reading
pub mod Runs
pub mod inner
