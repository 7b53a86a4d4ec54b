-- The data and the pairs of composing normalizers.
use Rattle.std.specs.Prelude.{List}
use Rattle.normalizer_tables.specs.Characters.{Characters}
use Rattle.normalizer_tables.specs.Pairs.{Pair}
pub use Rattle.normalizer_calls.specs.BorrowedData.{composing_data_of_borrowed, pairs_of_borrowed}
use Rattle.icu_normalizer.specs.Normalizers.{data_of}
use Rattle.icu_normalizer.specs.declared.composing_normalizer.ComposingNormalizer.{ComposingNormalizer}

-- the data that it owns
abbrev pub composing_data_of : ComposingNormalizer → Characters
composing_data_of n = data_of n.decomposing

-- the pairs that it owns
abbrev pub pairs_of : ComposingNormalizer → List Pair
pairs_of n = n.pairs

-- both
abbrev pub data_and_pairs_of : ComposingNormalizer → Characters × List Pair
data_and_pairs_of n = (composing_data_of n, pairs_of n)
