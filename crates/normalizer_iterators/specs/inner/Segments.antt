-- Composing a short text.
use Rattle.std.specs.Prelude.{◌≡◌, ℕ, List}
use Rattle.normal_forms.specs.Reading.{Reading}
use Rattle.normalizer_tables.specs.Pairs.{Pair, pair_of}

-- the reading composes as the pairs say
abbrev pub HasPairsOf : List Pair → Reading → Type 0
HasPairsOf pairs d = (a c : ℕ) → pair_of pairs a c ≡ d.pair a c
