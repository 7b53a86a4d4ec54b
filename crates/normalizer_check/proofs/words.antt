-- Words and what they say.
pub mod FdfaWords
pub mod DisallowedWords
