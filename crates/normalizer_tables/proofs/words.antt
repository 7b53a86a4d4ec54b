-- Words and what they say.
pub mod CharacterLemmas
pub mod PassthroughBound
pub mod PlainCharacters
pub mod ReadLemmas
pub mod ShortListLemmas
pub mod WordLemmas
