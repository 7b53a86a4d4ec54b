-- What holds of data and pairs that meet the conditions.
use Rattle.std.proofs.Common.{◌≡◌, ◌≢◌, ℕ, ◌+◌, ◌-◌, ◌/◌, ◌%◌, ◌⊎◌, inl, inr, true, false, not, ◌||◌, List, [], ◌∷◌, ◌++◌, All}
use Rattle.std.proofs.Common.{Option, Some, slice_get, nat_lt, refl, sym, ap, ◌∙◌, arith}
use Rattle.std.specs.Char.{IsScalar}
use lib.Utf8.{scalar}
use Rattle.std.proofs.lemmas.Bool.Decides.{nat_tests}
use Rattle.std.proofs.lemmas.List.{append-nil}
use Rattle.std.proofs.lemmas.List.Elements.{All-head, All-tail}
use Rattle.normal_forms.specs.Reading.{Reading, IsStarter}
use Rattle.normal_forms.specs.Order.{order, insert, is_reorderable}
use Rattle.normal_forms.specs.Decomposition.{expand}
use Rattle.normal_forms.specs.Composition.{compose, compose_from, visit, joined, is_blocked}
use Rattle.normal_forms.specs.Forms.{nfd, nfc, normal_form, IsNormalized}
use Rattle.normal_forms.specs.declared.Form.TheVariants.{Composing}
use Rattle.normal_forms.specs.Boundary.{BeginsAtBoundary}
use Rattle.normal_forms.specs.Hypotheses.{HasStarterResults, HasFaithfulResults}
use Rattle.normalizer_tables.specs.declared.condition.Condition.TheVariants.{Hangul, Order}
use Rattle.normalizer_tables.specs.declared.condition.Condition.TheVariants.{Pairs, Results, RoundTrip, SafeBeginning}
use Rattle.normalizer_tables.specs.declared.word.WordReading.TheVariants.{Ignored, HangulSyllable}
use Rattle.normalizer_tables.specs.Hangul.{is_hangul_syllable, hangul_decomposition}
use Rattle.normalizer_tables.specs.Words.{is_plain, is_non_round_trip, is_class_form, is_ordinary_class_form}
use Rattle.normalizer_tables.specs.Words.{is_special_class_form, has_high_zeros, has_low_zeros, read, read_low}
use Rattle.normalizer_tables.specs.Characters.{Characters, word_of, reading_of_word, as_text, named_list, list_read, list_of, class_of, has_class_form}
use Rattle.normalizer_tables.specs.conditions.CharacterConditions.{is_composing_jamo, IsPlainStarter, IsSoundHangul}
use Rattle.normalizer_tables.specs.conditions.Conditions.{IsMet, says}
use Rattle.normalizer_tables.specs.conditions.Loaded.{characters_loaded, pairs_loaded}
use Rattle.normalizer_tables.specs.conditions.PairConditions.{HasOrderedLists, ListBeginsAtBoundary, is_composing_passthrough, is_taken_as_boundary, is_taken_to_round_trip, IsComposablePair, KeepsBoundary, KeepsRoundTrip, RoundTrips}
use Rattle.normalizer_tables.specs.declared.condition.Bounds.{Bounds}
use Rattle.normalizer_tables.specs.Pairs.{Pair, pair_of, listed_result}
use Rattle.normalizer_tables.specs.HangulComposition.{compose_hangul, lv_syllable, is_leading_consonant, is_vowel, is_trailing_consonant, is_lv_syllable}
use Rattle.normalizer_tables.specs.Readings.{reading_by, reading_of}
use Rattle.normalizer_tables.specs.declared.characters.IgnoredCharacters.TheVariants.{Dropped}
use Rattle.normalizer_tables.proofs.words.CharacterLemmas.{list_read-scalar, list_of-reads}
use Rattle.normalizer_tables.proofs.composites.SingleComposites.{compose-empty, compositions}
use Rattle.normalizer_tables.proofs.conditions.ConditionLemmas.{jamo_scalar, syllable-scalar}
use Rattle.normal_forms.proofs.forms.AlikeReadings.{nfd-alike}
use Rattle.normal_forms.proofs.ordering.OrderLemmas.{insert-starter, order-nil, order-cons}
use Rattle.std.specs.List.{AllPass}
use Rattle.std.proofs.lemmas.List.Sums.{AllPass-from_list_all, list_all-from_AllPass}
use Rattle.normalizer_tables.proofs.lists.SoundLists.{elsewhere, dropped, same, kind_of, order-own, reads_as_itself, class_of-no_class_form}
use Rattle.normalizer_tables.proofs.composites.PairLemmas.{All-listed_result}
use Rattle.normalizer_tables.proofs.syllables.HangulLemmas.{compose_hangul-some, hangul_decomposition-lv, hangul_decomposition-two, hangul_decomposition-lvt}

-- a pair is one of Hangul or a listed one
pub pair_of-some : (pairs : List Pair) (first second result : ℕ) → pair_of pairs first second ≡ Some result →
    (compose_hangul first second ≡ Some result) ⊎ (listed_result pairs first second ≡ Some result)
unfolding pair_of
pair_of-some pairs first second result joins = grind arith

-- starters stay in their places
pub order-starters : (d : Reading) (x : List ℕ) → All (IsStarter d) x → order d x ≡ x
order-starters d [] h = order-nil d
order-starters d (c ∷ x) h =
    order-cons d c x ∙ ap (insert d c) (order-starters d x (All-tail (IsStarter d) c x h)) ∙ insert-starter d c x (All-head (IsStarter d) c x h)

-- the members of a syllable's list take part in syllables
pub jamo_of : (n : ℕ) → is_hangul_syllable n ≡ true → AllPass is_composing_jamo (hangul_decomposition n)
unfolding hangul_decomposition is_composing_jamo is_hangul_syllable
jamo_of n h = AllPass-from_list_all is_composing_jamo _ (grind (arith, nat_tests))

-- they are two at least, and begin with the leading consonant
pub apart-syllable : (n m : ℕ) → hangul_decomposition n ≢ m ∷ []
unfolding hangul_decomposition
apart-syllable n m = grind arith

pub first-syllable : (n : ℕ) → slice_get (hangul_decomposition n) 0 ≡ Some (0x1100 + (n - 0xAC00) / 588)
unfolding hangul_decomposition
first-syllable n = grind arith

-- it is composed of the first two, or of a syllable and the last
pub two-composed : (n a : ℕ) → is_hangul_syllable n ≡ true → a ≡ n - (n - 0xAC00) % 28 → compose_hangul (0x1100 + (n - 0xAC00) / 588) (0x1161 + (n - 0xAC00) % 588 / 28) ≡ Some a
unfolding compose_hangul lv_syllable is_leading_consonant is_vowel is_hangul_syllable
two-composed n a h is = grind (arith, nat_tests)

pub three-composed : (n : ℕ) → is_hangul_syllable n ≡ true → (n - 0xAC00) % 28 ≢ 0 → compose_hangul (n - (n - 0xAC00) % 28) (0x11A7 + (n - 0xAC00) % 28) ≡ Some n
unfolding compose_hangul is_leading_consonant is_lv_syllable is_trailing_consonant is_hangul_syllable
three-composed n h some = grind (arith, nat_tests)

pub composed-syllable : (a c r : ℕ) → compose_hangul a c ≡ Some r → is_hangul_syllable r ≡ true
unfolding is_hangul_syllable
composed-syllable a c r joins = elim (compose_hangul-some a c r joins) [ inl h ↦ grind (arith, nat_tests) | inr h ↦ grind (arith, nat_tests) ]

-- if Hangul is sound
module _ (s : Characters) (sound : (n : ℕ) → IsSoundHangul s n) where
  pub reading-syllable : (n : ℕ) → is_hangul_syllable n ≡ true → reading_of_word s n ≡ HangulSyllable
  unfolding reading_of_word read read_low is_plain is_ordinary_class_form is_special_class_form has_high_zeros has_low_zeros
  reading-syllable n h = rw ((sound n).syllable h) (grind arith)

  pub no_class_form-syllable : (n : ℕ) → is_hangul_syllable n ≡ true → is_class_form (word_of s n) ≡ false
  unfolding is_class_form is_ordinary_class_form is_special_class_form
  no_class_form-syllable n h = ap is_class_form ((sound n).syllable h)

  pub class_of-syllable : (n : ℕ) → is_hangul_syllable n ≡ true → class_of s n ≡ 0
  unfolding has_class_form
  class_of-syllable n h = class_of-no_class_form s n (no_class_form-syllable n h)

  -- a syllable has the list of its jamo, however ignored characters are treated
  pub list_read-syllable : (ignored : List ℕ) (n : ℕ) → is_hangul_syllable n ≡ true → list_read s ignored n ≡ Some (hangul_decomposition n)
  unfolding named_list as_text
  list_read-syllable ignored n h =
      let scalars = list_all-from_AllPass scalar (hangul_decomposition n) (λ k d within. jamo_scalar _ (jamo_of n h k d within)) in
      list_read-scalar s ignored n HangulSyllable (syllable-scalar n h) (reading-syllable n h) ∙ rw scalars refl

  pub list_of-syllable : (ignored : List ℕ) (n : ℕ) → is_hangul_syllable n ≡ true → list_of s ignored n ≡ hangul_decomposition n
  list_of-syllable ignored n h = list_of-reads s ignored n _ (list_read-syllable ignored n h)

  -- a jamo of a syllable is a starter that reads as itself
  pub jamo-starts : (n : ℕ) → is_composing_jamo n ≡ true → class_of s n ≡ 0
  unfolding IsPlainStarter
  jamo-starts n h = ((sound n).jamo h).1

  list_of-jamo : (ignored : List ℕ) (n : ℕ) → is_composing_jamo n ≡ true → list_of s ignored n ≡ n ∷ []
  unfolding IsPlainStarter
  list_of-jamo ignored n h = reads_as_itself s ignored n ((sound n).jamo h).0

  -- the lists of two that make a syllable are its list, in order
  parts : (ignored : List ℕ) (a c r : ℕ) → compose_hangul a c ≡ Some r → hangul_decomposition r ≡ list_of s ignored a ++ list_of s ignored c
  unfolding is_hangul_syllable is_composing_jamo
  parts ignored a c r joins = elim (compose_hangul-some a c r joins) [
    | inl h ↦ rw (list_of-jamo ignored a (grind (arith, nat_tests)), list_of-jamo ignored c (grind (arith, nat_tests))) (hangul_decomposition-lv a c r h)
    | inr h ↦
        rw (list_of-syllable ignored a (grind (arith, nat_tests)), hangul_decomposition-two a h.two_jamo, list_of-jamo ignored c (grind (arith, nat_tests))) (hangul_decomposition-lvt a c r h)
  ]

  faithful : (ignored : List ℕ) (pairing : ℕ → ℕ → Option ℕ) (a c r : ℕ) → compose_hangul a c ≡ Some r →
      list_of s ignored r ≡ order (reading_of s ignored pairing) (list_of s ignored a ++ list_of s ignored c)
  faithful ignored pairing a c r joins =
      let h = composed-syllable a c r joins in
      list_of-syllable ignored r h ∙ sym (order-starters (reading_of s ignored pairing) _ (λ k e within. jamo-starts _ (jamo_of r h k e within)))
      ∙ ap (order (reading_of s ignored pairing)) (parts ignored a c r joins)

module _ (s : Characters) (b : Bounds) (hangul : IsMet (characters_loaded s b) Hangul) where
  pub sound_hangul : (n : ℕ) → IsSoundHangul s n
  unfolding says
  sound_hangul n = hangul.0 n

  pub HasStarterResults-reading_of : (pairs : List Pair) → IsMet (pairs_loaded s b pairs) Pairs → (ignored : List ℕ) → HasStarterResults (reading_of s ignored (pair_of pairs))
  unfolding says IsComposablePair
  HasStarterResults-reading_of pairs holds ignored = record {
    starters = λ a c r joins. elim (pair_of-some pairs a c r joins) [
      | inl by_hangul ↦ class_of-syllable s sound_hangul r (composed-syllable a c r by_hangul)
      | inr as_listed ↦ class_of-no_class_form s r (All-listed_result (IsComposablePair s) pairs a c r holds.0.1 as_listed).1.starter
    ];
  }

  pub HasFaithfulResults-reading_of : (pairs : List Pair) (ignored : List ℕ) → All (HasOrderedLists s ignored) pairs → HasFaithfulResults (reading_of s ignored (pair_of pairs))
  unfolding HasOrderedLists
  HasFaithfulResults-reading_of pairs ignored holds = record {
    results = λ a c r joins. elim (pair_of-some pairs a c r joins) [
      | inl by_hangul ↦ faithful s sound_hangul ignored (pair_of pairs) a c r by_hangul
      | inr as_listed ↦ All-listed_result (HasOrderedLists s ignored) pairs a c r holds as_listed ∙ order-own s ignored (pair_of pairs) _
    ];
  }

  pub HasFaithfulResults-condition : (pairs : List Pair) → IsMet (pairs_loaded s b pairs) Results → HasFaithfulResults (reading_by s Dropped pairs)
  unfolding says
  HasFaithfulResults-condition pairs holds = HasFaithfulResults-reading_of pairs [] holds.0

module _ (s : Characters) (b : Bounds) (pairs : List Pair) where
  -- a list that isn't empty is the same however ignored characters are treated
  same_list : (ignored : List ℕ) (n : ℕ) → scalar n ≡ true → list_of s [] n ≢ [] → list_of s ignored n ≡ list_of s [] n
  unfolding named_list
  same_list ignored n h some = elim (kind_of s ignored n) [
    | elsewhere q e ↦ cc
    | dropped q r e ↦ absurd (some (list_of-reads s [] n [] (list_read-scalar s [] n Ignored q r)))
    | same q e f ↦ f
  ]

  round_trip : IsMet (pairs_loaded s b pairs) RoundTrip → (n : ℕ) → IsScalar n → is_composing_passthrough s b n ≡ true → compose (reading_by s Dropped pairs) (list_of s [] n) ≡ n ∷ []
  unfolding says KeepsRoundTrip RoundTrips is_composing_passthrough is_taken_to_round_trip
  round_trip holds n h passed = holds.1 n h (grind arith)

  beginning : IsMet (pairs_loaded s b pairs) SafeBeginning → (n : ℕ) → IsScalar n → is_composing_passthrough s b n ≡ true → ListBeginsAtBoundary s pairs n
  unfolding says KeepsBoundary is_composing_passthrough is_taken_as_boundary
  beginning holds n h passed = holds.1 n h (grind arith)

  pub IsNormalized-passed : IsMet (characters_loaded s b) Order → IsMet (pairs_loaded s b pairs) RoundTrip → (ignored : List ℕ) (n : ℕ) → IsScalar n → is_composing_passthrough s b n ≡ true →
      IsNormalized (reading_of s ignored (pair_of pairs)) Composing (n ∷ [])
  unfolding says normal_form nfc nfd expand order insert is_reorderable compose compose_from visit joined is_blocked
  IsNormalized-passed in_order trips ignored n h passed =
      let d = reading_of s ignored (pair_of pairs) in
      let trip = round_trip trips n h passed in
      let some : list_of s [] n ≢ [] = λ e. compose-empty (reading_by s Dropped pairs) (list_of s [] n) n (ap (λ x. slice_get x 0) e) trip in
      ap (λ x. compose d (order d x)) (append-nil (list_of s ignored n) ∙ same_list ignored n h some) ∙ ap (compose d) (in_order.1 n h).ordered ∙ trip

  same_beginning : (ignored : List ℕ) (x : List ℕ) → BeginsAtBoundary (reading_by s Dropped pairs) x → BeginsAtBoundary (reading_of s ignored (pair_of pairs)) x
  same_beginning ignored [] h = tt
  same_beginning ignored (c ∷ x) h = h

  pub BeginsAtBoundary-passed : IsMet (pairs_loaded s b pairs) SafeBeginning → (ignored : List ℕ) (n : ℕ) → IsScalar n → is_composing_passthrough s b n ≡ true →
      BeginsAtBoundary (reading_of s ignored (pair_of pairs)) (list_of s ignored n)
  BeginsAtBoundary-passed holds ignored n h passed =
      let begins = beginning holds n h passed in rw (same_list ignored n h begins.begins) (same_beginning ignored (list_of s [] n) begins.safely)

  pub are_nonempty-passed : IsMet (pairs_loaded s b pairs) SafeBeginning → (ignored : List ℕ) (n : ℕ) → IsScalar n → is_composing_passthrough s b n ≡ true → list_of s ignored n ≢ []
  are_nonempty-passed holds ignored n h passed e =
      let begins = beginning holds n h passed in begins.begins (sym (same_list ignored n h begins.begins) ∙ e)

-- what the laws of pairs say
pub ruleset pair_laws = (HasStarterResults-reading_of, HasFaithfulResults-reading_of, HasFaithfulResults-condition, IsNormalized-passed, BeginsAtBoundary-passed, are_nonempty-passed, nfd-alike)

-- what the check of round trips cites
pub taken_to_round_trip : (s : Characters) (b : Bounds) (n : ℕ) → is_taken_to_round_trip s b n ≡ (not (is_non_round_trip (word_of s n)) || nat_lt n b.composition)
unfolding is_taken_to_round_trip
taken_to_round_trip s b n = refl

pub ruleset trips = (compositions, taken_to_round_trip)
