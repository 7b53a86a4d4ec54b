pub mod entry_data
pub mod words_of_lists
pub mod lists
pub mod constant_words
pub mod reading_back
pub mod beside
pub mod spellings
