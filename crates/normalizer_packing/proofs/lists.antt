-- Lists that no word spells.
pub mod ListPlaces
pub mod StoreLemmas
pub mod TableLemmas
