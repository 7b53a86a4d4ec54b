-- Which characters are second in a pair, as a bit of a list of words for each.
use Rattle.std.specs.Prelude.{◌≡◌, ℕ, ◌/◌, ◌%◌, ◌==◌, Bool, List, slice_index_or}
use Rattle.std.specs.Int.{bit_at}
use Rattle.normalizer_tables.specs.Pairs.{Pair, is_listed_second}

-- the bit of the number in words of 64 bits; not set past them
unfoldable pub has_bit : List ℕ → ℕ → Bool
has_bit words c = bit_at (slice_index_or words (c / 64) 0) (c % 64) == 1

-- the bits of the seconds of the pairs, and no others, are set
abbrev pub AreBitsOf : List ℕ → List Pair → Type 0
AreBitsOf words pairs = (c : ℕ) → has_bit words c ≡ is_listed_second pairs c
