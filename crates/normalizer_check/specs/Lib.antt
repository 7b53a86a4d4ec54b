pub mod EachCharacter
pub mod RequiredConditions
pub mod Refusals
pub mod inner
