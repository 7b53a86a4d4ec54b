-- What is checked of lists.
pub mod ChecksOfCuts
pub mod JamoOfSyllables
pub mod OrLemmas
pub mod RoomLemmas
pub mod UnrecordedLemmas
