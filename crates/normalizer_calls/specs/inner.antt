-- What the contracts of private functions alone cite.
pub mod FormsLeft
pub mod Offences
pub mod WriteUnlessOwn
pub mod PassthroughRuns
pub mod WrittenParts
