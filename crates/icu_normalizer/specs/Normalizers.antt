-- The data of decomposing normalizers.
use Rattle.std.specs.Prelude.{false}
use Rattle.normalizer_tables.specs.Characters.{Characters}
use Rattle.normalizer_tables.specs.Owned.{characters_owned}
pub use Rattle.normalizer_calls.specs.BorrowedData.{data_of_borrowed}
use Rattle.icu_normalizer.specs.declared.decomposing_normalizer.DecomposingNormalizer.{DecomposingNormalizer}

-- the data that it owns
abbrev pub data_of : DecomposingNormalizer → Characters
data_of n = characters_owned n.characters false
