pub mod AtFault
pub mod Accepted
pub mod Building
pub mod Built
pub mod Demands
pub mod RecordedReading
pub mod RecordedClasses
pub mod inner
