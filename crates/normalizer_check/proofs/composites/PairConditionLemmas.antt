-- What the conditions on pairs say of a character.
use Rattle.std.proofs.Common.{refl, not, ◌||◌, nat_lt, ◌≡◌, ◌↔◌, ℕ, ◌<◌, Bool, true, List, [], Some, slice_get, IsTrue, ap, inl, inr, arith}
use Rattle.std.specs.Char.{IsScalar}
use Rattle.std.proofs.Math.Utf8.{scalar, scalar_cases}
use Rattle.normal_forms.specs.Composition.{compose, compose_from, visit}
use Rattle.normalizer_tables.specs.declared.condition.Bounds.{Bounds}
use Rattle.normalizer_tables.specs.Words.{is_plain, is_backward_combining}
use Rattle.normalizer_tables.specs.Characters.{Characters, word_of, list_of, class_of}
use Rattle.normalizer_tables.specs.Pairs.{Pair, IsNeverSecond}
use Rattle.normalizer_tables.specs.conditions.PairConditions.{ListBeginsAtBoundary, RoundTrips, KeepsRoundTrip, is_taken_as_boundary}
use Rattle.normalizer_tables.specs.Readings.{reading_by}
use Rattle.normalizer_tables.specs.declared.characters.IgnoredCharacters.TheVariants.{Dropped}
use Rattle.normalizer_tables.proofs.conditions.ConditionLemmas.{class_of-plain}
use Rattle.normalizer_tables.proofs.words.PlainCharacters.{list_of-plain_word}
use Rattle.std.proofs.lemmas.List.{length-take-le}
use Rattle.normalizer_tables.proofs.lists.OrderedLists.{insertions}
use Rattle.normalizer_tables.proofs.lists.ListLengths.{length-list_of, two_lists-fit}
use Rattle.normalizer_tables.proofs.composites.SingleComposites.{begins_safely}

-- a list begins at a boundary exactly if its first character is a starter that is never second
pub safe_beginning : (s : Characters) (pairs : List Pair) (n first : ℕ) → slice_get (list_of s [] n) 0 ≡ Some first →
    ListBeginsAtBoundary s pairs n ↔ ((class_of s first ≡ 0) × IsNeverSecond pairs first)
unfolding IsNeverSecond
safe_beginning s pairs n first h =
    let from_first = begins_safely (reading_by s Dropped pairs) (list_of s [] n) first h in
    (λ safe. from_first.0 (safe.begins, safe.safely), λ parts. record { begins = (from_first.1 parts).0; safely = (from_first.1 parts).1 })

module _ (s : Characters) (pairs : List Pair) (n : ℕ) where
  of_plain : scalar n ≡ true → is_plain (word_of s n) ≡ true → ListBeginsAtBoundary s pairs n ↔ ((class_of s n ≡ 0) × IsNeverSecond pairs n)
  of_plain h plain = safe_beginning s pairs n n (ap (λ x. slice_get x 0) (list_of-plain_word s [] n h plain))

  pub ListBeginsAtBoundary-plain : (r : Bool) → scalar n ≡ true → is_plain (word_of s n) ≡ true → IsTrue r ↔ IsNeverSecond pairs n → IsTrue r ↔ ListBeginsAtBoundary s pairs n
  ListBeginsAtBoundary-plain r h plain never = (λ yes. (of_plain h plain).1 (class_of-plain s n h plain, never.0 yes), λ safe. never.1 ((of_plain h plain).0 safe).1)

  -- if it begins at a boundary, it is never second
  pub IsNeverSecond-plain : scalar n ≡ true → is_plain (word_of s n) ≡ true → ListBeginsAtBoundary s pairs n → IsNeverSecond pairs n
  IsNeverSecond-plain h plain safe = ((of_plain h plain).0 safe).1

-- scalar values lie below 0x110000
pub scalar_below : (n : ℕ) → IsScalar n → n < 0x110000
scalar_below n h = elim (scalar_cases n h) as (λ _. n < 0x110000) [ inl low ↦ omega arith | inr high ↦ high.1 ]

-- a plain word keeps the condition on round trips
pub KeepsRoundTrip-plain : (s : Characters) (b : Bounds) (pairs : List Pair) (n : ℕ) → IsScalar n → is_plain (word_of s n) ≡ true → KeepsRoundTrip s b pairs n
unfolding KeepsRoundTrip RoundTrips compose compose_from visit
KeepsRoundTrip-plain s b pairs n h plain taken = ap (compose (reading_by s Dropped pairs)) (list_of-plain_word s [] n h plain)

-- what the functions that put lists in order cite
pub ruleset ordered_lists = (insertions, length-take-le, length-list_of, two_lists-fit)

-- what the check of beginnings cites
pub taken_to_begin : (s : Characters) (b : Bounds) (n : ℕ) → is_taken_as_boundary s b n ≡ (not (is_backward_combining (word_of s n)) || nat_lt n b.composition)
unfolding is_taken_as_boundary
taken_to_begin s b n = refl

pub ruleset beginnings = (safe_beginning, taken_to_begin)
