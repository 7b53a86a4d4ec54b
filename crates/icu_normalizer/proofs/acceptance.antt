-- Data that constructors accept.
pub mod AllForms
pub mod MapperData
pub mod NormalizerData
pub mod SoundPairs
