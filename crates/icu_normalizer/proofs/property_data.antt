-- Data of classes, pairs and steps.
pub mod ClassWords
pub mod HangulSteps
pub mod SoundSteps
