-- The reading that data, ignored characters and pairs make.
use Rattle.std.specs.Prelude.{ℕ, List, Option}
use Rattle.normal_forms.specs.Reading.{Reading}
use Rattle.normalizer_tables.specs.Characters.{Characters, class_of, list_of}
use Rattle.normalizer_tables.specs.Ignored.{IgnoredCharacters, ignored_list}
use Rattle.normalizer_tables.specs.Pairs.{Pair, pair_of}

-- lists and classes are those of the data, with these characters in place of an ignored one; laws of lists and classes
-- alone hold of it for any pairing
abbrev pub reading_of : Characters → List ℕ → (ℕ → ℕ → Option ℕ) → Reading
reading_of s ignored pairing = record { list = list_of s ignored; class = class_of s; pair = pairing }

-- the reading of data: two characters compose as the pairs say. If nothing is composed, the list of pairs is empty.
abbrev pub reading_by : Characters → IgnoredCharacters → List Pair → Reading
reading_by s ignored pairs = reading_of s (ignored_list ignored) (pair_of pairs)
