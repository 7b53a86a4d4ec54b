-- The lists of characters.
pub mod ListLengths
pub mod ListedLemmas
pub mod MadeLists
pub mod NonemptyLists
pub mod OrderedLists
pub mod PlaceTables
pub mod RisingLists
pub mod SoundLists
