-- What is checked of the words that aren't 0 suffices for all.
use Rattle.std.proofs.Common.{◌≡◌, ◌≢◌, ℕ, min, ◌<◌, ◌≤◌, arith, true≢false, inl, inr, Bool, ap, true, false, List, All, Option, Some, None, refl, sym, subst, ◌∙◌}
use Rattle.std.specs.Char.{IsScalar}
use Rattle.std.proofs.lemmas.Bool.{cases_Bool, cases_lt, cases_order, cond-false}
use Rattle.std.proofs.lemmas.Bool.Decides.{nat_tests}
use Rattle.normalizer_tables.specs.declared.condition.Bounds.{Bounds}
use Rattle.normalizer_tables.specs.declared.condition.Condition.{Condition}
use Rattle.normalizer_tables.specs.Characters.{Characters, IsEndOfDisallowed, IsNextWord, word_of}
use Rattle.normalizer_tables.specs.conditions.CharacterConditions.{IsSoundHangul}
use Rattle.normalizer_tables.specs.conditions.Loaded.{Loaded}
use Rattle.normalizer_tables.specs.conditions.PairConditions.{KeepsBoundary, is_taken_as_boundary}
use Rattle.normalizer_tables.specs.Pairs.{Pair, IsNeverSecond, is_vowel_or_trailing_jamo, listed_result, pair_of}
use Rattle.normalizer_check.specs.inner.Walk.{IsDisallowed, IsEndOfEqualWords, IsMetBefore, KeepsPlainBoundary}
use Rattle.normalizer_tables.specs.conditions.Conditions.{says}
use Rattle.normalizer_tables.specs.Hangul.{is_hangul_syllable}
use Rattle.normalizer_tables.specs.Table.{code_points}
use Rattle.normalizer_tables.specs.Words.{is_disallowed, is_plain}
use Rattle.normalizer_tables.proofs.conditions.ConditionLemmas.{syllable-scalar}
use Rattle.normalizer_check.proofs.composites.PairConditionLemmas.{ListBeginsAtBoundary-plain, IsNeverSecond-plain}
use Rattle.normalizer_tables.proofs.composites.PairLemmas.{All-listed_result}
use Rattle.normalizer_check.proofs.conditions.EachCondition.{of_each-disallowed_behind, of_each-syllable_behind}

-- checking a number suffices for those before it whose words are 0, for itself, and for the syllables after it that are
-- alike
pub of_each-answered : (d : Loaded) (hangul_is_sound : Bool) → (hangul_is_sound ≡ true → (n : ℕ) → IsSoundHangul d.characters n) → (from number end : ℕ) → IsNextWord d.characters from number →
    IsEndOfEqualWords d.characters hangul_is_sound number end →
    (c : Condition) → IsMetBefore d c → (IsScalar number → (says d c).of_each number) → (n : ℕ) → from ≤ n → n < end → IsScalar n → (says d c).of_each n
of_each-answered d hangul_is_sound sound from number end next behind c before met n low high is = elim (cases_order n number) [
  | inl same ↦ subst (λ m. (says d c).of_each m) (sym same) (met (subst IsScalar same is))
  | inr (inl under) ↦ before.1 n is (next.between n low under)
  | inr (inr after) ↦ elim (behind.alike n after high is) [
    | inl syllable ↦ of_each-syllable_behind d (sound syllable.0) c number n syllable.1 (met (syllable-scalar number syllable.1.first))
    | inr disallowed ↦ of_each-disallowed_behind d number n after disallowed.0 disallowed.1 c (met disallowed.0.character)
  ]
]

-- disallowed characters right after one, up to an end before which there is no surrogate, and not U+FFFD
module _ (s : Characters) (n end top : ℕ) (is : word_of s n ≡ 0x4000FFFD) (ends : IsEndOfDisallowed s n end) (low : n < top) (high : top ≤ 0x110000)
    (others : (m : ℕ) → n ≤ m → m < top → IsScalar m × (is_hangul_syllable m ≡ false) × (m ≢ 0xFFFD)) where
  beyond : n < end
  unfolding code_points is_disallowed
  beyond = elim (cases_lt n end) [
    | inl less ↦ less
    | inr same ↦
        let here : end ≡ n = omega (arith, ends.least) in
        let not : is_disallowed (word_of s n) ≡ false = subst (λ k. is_disallowed (word_of s k) ≡ false) here (ends.found (omega arith)) in
        absurd (true≢false (sym (ap is_disallowed is) ∙ not))
  ]

  disallowed_at : (m : ℕ) → n ≤ m → m < min end top → IsDisallowed s m
  disallowed_at m from to = (let other = others m from (omega arith) in record { character = other.0; other = (other.1, other.2); word = ends.between m from (omega arith) })

  IsEndOfEqualWords-top : (hangul_is_sound : Bool) → IsEndOfEqualWords s hangul_is_sound n (min end top)
  unfolding code_points
  IsEndOfEqualWords-top hangul_is_sound = record {
    above = omega (arith, beyond);
    within = λ _. omega arith;
    alike = λ m after before is. inr (disallowed_at n (omega arith) (omega (arith, beyond)), disallowed_at m (omega arith) before);
  }

pub IsEndOfEqualWords-low : (s : Characters) (n end : ℕ) → n < 0xAC00 → word_of s n ≡ 0x4000FFFD → IsEndOfDisallowed s n end →
    (hangul_is_sound : Bool) → IsEndOfEqualWords s hangul_is_sound n (min end 0xAC00)
unfolding is_hangul_syllable
IsEndOfEqualWords-low s n end low is ends = IsEndOfEqualWords-top s n end 0xAC00 is ends low (omega arith)
    (λ m from to. (grind (arith, nat_tests), grind (arith, nat_tests), λ e. absurd (omega arith)))

pub IsEndOfEqualWords-below : (s : Characters) (n end : ℕ) → 0xE000 ≤ n → n ≤ 0xFFFC → word_of s n ≡ 0x4000FFFD → IsEndOfDisallowed s n end →
    (hangul_is_sound : Bool) → IsEndOfEqualWords s hangul_is_sound n (min end 0xFFFD)
unfolding is_hangul_syllable
IsEndOfEqualWords-below s n end low high is ends = IsEndOfEqualWords-top s n end 0xFFFD is ends (omega arith) (omega arith)
    (λ m from to. (grind (arith, nat_tests), grind (arith, nat_tests), λ e. absurd (omega arith)))

pub IsEndOfEqualWords-above : (s : Characters) (n end : ℕ) → 0xFFFE ≤ n → n ≤ 0x10FFFF → word_of s n ≡ 0x4000FFFD → IsEndOfDisallowed s n end →
    (hangul_is_sound : Bool) → IsEndOfEqualWords s hangul_is_sound n end
unfolding is_hangul_syllable code_points
IsEndOfEqualWords-above s n end low high is ends hangul_is_sound =
    let all : min end 0x110000 ≡ end = omega (arith, ends.within) in
    subst (IsEndOfEqualWords s hangul_is_sound n) all (IsEndOfEqualWords-top s n end 0x110000 is ends (omega arith) (omega arith)
    (λ m from to. (grind (arith, nat_tests), grind (arith, nat_tests), λ e. absurd (omega arith))) hangul_is_sound)

-- a character with a plain word that is second in no pair begins at a boundary. So the seconds of pairs are enough, with those of Hangul.
module _ (s : Characters) (b : Bounds) (pairs : List Pair) (seconds : All (λ p. KeepsPlainBoundary s b pairs p.0) pairs)
    (jamo : (n : ℕ) → is_vowel_or_trailing_jamo n ≡ true → KeepsPlainBoundary s b pairs n) where
  never_second : (n : ℕ) → is_plain (word_of s n) ≡ true → IsScalar n → is_taken_as_boundary s b n ≡ true → is_vowel_or_trailing_jamo n ≡ false → IsNeverSecond pairs n
  unfolding IsNeverSecond pair_of KeepsPlainBoundary KeepsBoundary
  never_second n plain is taken other first = cond-false _ _ _ other ∙ unlisted (listed_result pairs first n) refl
    where
      unlisted : (o : Option ℕ) → listed_result pairs first n ≡ o → listed_result pairs first n ≡ None
      unlisted None e = e
      unlisted (Some result) e =
          let keeps : KeepsPlainBoundary s b pairs n = All-listed_result (λ p. KeepsPlainBoundary s b pairs p.0) pairs first n result seconds e in
          sym (cond-false _ _ _ other) ∙ IsNeverSecond-plain s pairs n is plain (keeps is plain taken) first

  pub all_keep_plain_beginning : (n : ℕ) → KeepsPlainBoundary s b pairs n
  unfolding KeepsPlainBoundary KeepsBoundary
  all_keep_plain_beginning n = λ is plain taken. elim (cases_Bool (is_vowel_or_trailing_jamo n)) [
    | inl behind ↦ jamo n behind is plain taken
    | inr other ↦ (ListBeginsAtBoundary-plain s pairs n true is plain (λ yes. never_second n plain is taken other, λ h. refl)).0 refl
  ]
