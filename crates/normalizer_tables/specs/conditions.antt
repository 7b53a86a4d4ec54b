-- What the conditions of data say.
pub mod CharacterConditions
pub mod Conditions
pub mod Loaded
pub mod NfdData
pub mod PairConditions
pub mod SoundData
pub mod StepConditions
