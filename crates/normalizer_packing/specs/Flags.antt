-- The two flags of a word.
use Rattle.std.specs.Prelude.{◌≡◌, ◌↔◌, ◌<◌, ◌^◌, ℕ, false, List, [], ◌∷◌, bit_and}
use Rattle.normal_forms.specs.Reading.{Reading}
use Rattle.normal_forms.specs.Composition.{compose}
use Rattle.normalizer_tables.specs.Pairs.{Pair, IsNeverSecond}
use Rattle.normalizer_tables.specs.Words.{is_non_round_trip, is_backward_combining, is_class_form}

-- a word without bits 30 and 31
unfoldable pub without_flags : ℕ → ℕ
without_flags w = bit_and w 0x3FFFFFFF

-- the first of the list is second in no pair, Hangul ones included
abbrev pub BeginsUnpaired : List Pair → List ℕ → Type 0
BeginsUnpaired pairs [] = Unit {0}
BeginsUnpaired pairs (s ∷ x) = IsNeverSecond pairs s

-- the flags of the word w of a character n with the list x: NON_ROUND_TRIP if the list doesn't compose to n alone,
-- BACKWARD_COMBINING on class forms and if the list's first is second in a pair
pub record IsFlagged (d : Reading) (pairs : List Pair) (n : ℕ) (x : List ℕ) (w : ℕ) : Type 0 where
  pub within : w < 2 ^ 32
  pub round_trip : (is_non_round_trip w ≡ false) ↔ (compose d x ≡ n ∷ [])
  pub backward : (is_backward_combining w ≡ false) ↔
      ((is_class_form (without_flags w) ≡ false) × BeginsUnpaired pairs x)
