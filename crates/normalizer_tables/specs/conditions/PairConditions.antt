-- What the written conditions say of composing pairs, and of decomposition data by the pairs.
use Rattle.std.specs.Prelude.{◌≡◌, ◌≢◌, ℕ, ◌||◌, ◌&&◌, Bool, true, false, not, nat_lt, List, [], ◌∷◌, ◌++◌, All}
use Rattle.normal_forms.specs.Order.{order}
use Rattle.normal_forms.specs.Composition.{compose}
use Rattle.normal_forms.specs.Boundary.{BeginsAtBoundary}
use Rattle.normalizer_tables.specs.declared.condition.Bounds.{Bounds}
use Rattle.normalizer_tables.specs.Words.{ignored_marker, is_non_round_trip, is_backward_combining}
use Rattle.normalizer_tables.specs.Characters.{Characters, word_of, list_of, has_class_form}
use Rattle.normalizer_tables.specs.Pairs.{Pair, AreRising, is_vowel_or_trailing_jamo}
use Rattle.normalizer_tables.specs.Readings.{reading_by}
use Rattle.normalizer_tables.specs.Ignored.{Dropped}

-- pairs are sorted, without duplicates, and none of their seconds is one of the Hangul arithmetic
pub record AreSoundPairs (pairs : List Pair) : Type 0 where
  pub rising : AreRising pairs
  pub seconds : All (λ p. is_vowel_or_trailing_jamo p.0 ≡ false) pairs

-- n has no class form, and isn't ignored
pub record IsComposable (s : Characters) (n : ℕ) : Type 0 where
  pub starter : has_class_form s n ≡ false
  pub kept : word_of s n ≢ ignored_marker

-- the first of a pair and its result have no class form, and aren't ignored
unfoldable pub IsComposablePair : Characters → Pair → Type 0
IsComposablePair s p = IsComposable s p.1 × IsComposable s p.2

-- a composing loop relies on it that n composes to itself: it has no NON_ROUND_TRIP, or lies below the bound
unfoldable pub is_taken_to_round_trip : Characters → Bounds → ℕ → Bool
is_taken_to_round_trip s b n = not (is_non_round_trip (word_of s n)) || nat_lt n b.composition

-- a composing loop relies on it that nothing composes across the beginning of n: it has no BACKWARD_COMBINING, or lies
-- below the bound
unfoldable pub is_taken_as_boundary : Characters → Bounds → ℕ → Bool
is_taken_as_boundary s b n = not (is_backward_combining (word_of s n)) || nat_lt n b.composition

-- a composing loop passes n as it is: it lies below the bound, or has neither flag
unfoldable pub is_composing_passthrough : Characters → Bounds → ℕ → Bool
is_composing_passthrough s b n =
    nat_lt n b.composition || (not (is_non_round_trip (word_of s n)) && not (is_backward_combining (word_of s n)))

-- the list of n composes to n alone
unfoldable pub RoundTrips : Characters → List Pair → ℕ → Type 0
RoundTrips s pairs n = let d = reading_by s Dropped pairs in compose d (d.list n) ≡ n ∷ []

-- the list of n begins with a starter that is second in no pair
pub record ListBeginsAtBoundary (s : Characters) (pairs : List Pair) (n : ℕ) : Type 0 where
  pub begins : (reading_by s Dropped pairs).list n ≢ []
  pub safely : BeginsAtBoundary (reading_by s Dropped pairs) ((reading_by s Dropped pairs).list n)

-- if a composing loop relies on it, the list of n composes to n
unfoldable pub KeepsRoundTrip : Characters → Bounds → List Pair → ℕ → Type 0
KeepsRoundTrip s b pairs n = is_taken_to_round_trip s b n ≡ true → RoundTrips s pairs n

-- if a composing loop relies on the beginning of n, the list of n begins at a boundary
unfoldable pub KeepsBoundary : Characters → Bounds → List Pair → ℕ → Type 0
KeepsBoundary s b pairs n = is_taken_as_boundary s b n ≡ true → ListBeginsAtBoundary s pairs n

-- a result has the ordered lists of first and second; `ignored` is the list of an ignored character
unfoldable pub HasOrderedLists : Characters → List ℕ → Pair → Type 0
HasOrderedLists s ignored p =
    list_of s ignored p.2 ≡ order (reading_by s Dropped []) (list_of s ignored p.1 ++ list_of s ignored p.0)
