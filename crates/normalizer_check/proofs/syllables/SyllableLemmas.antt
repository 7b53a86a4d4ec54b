-- Hangul syllables by the condition on Hangul: their lists, and what these compose to.
use Rattle.std.proofs.Common.{◌≡◌, ◌==◌, ℕ, ◌+◌, ◌-◌, ◌/◌, ◌%◌, true, List, [], ◌∷◌, All, slice_get, Some, refl, arith}
use Rattle.std.proofs.lemmas.Bool.{eqb-false, eqb-true}
use Rattle.normal_forms.specs.Composition.{compose, joined, is_blocked}
use Rattle.std.proofs.lemmas.Bool.{cond_both}
use Rattle.std.proofs.lemmas.Bool.Decides.{nat_tests}
use Rattle.normal_forms.specs.Boundary.{BeginsWithStarter}
use Rattle.normal_forms.specs.Composition.{compose_from, visit}
use Rattle.normal_forms.specs.Reading.{Reading, IsStarter}
use Rattle.normalizer_tables.specs.Characters.{Characters, list_of, class_of}
use Rattle.normalizer_tables.specs.conditions.CharacterConditions.{is_composing_jamo, IsSoundHangul}
use Rattle.normalizer_tables.specs.Hangul.{is_hangul_syllable, hangul_decomposition}
use Rattle.normalizer_tables.specs.HangulComposition.{compose_hangul}
use Rattle.normalizer_tables.specs.Pairs.{Pair, is_vowel_or_trailing_jamo, pair_of}
use Rattle.normalizer_tables.specs.Readings.{reading_by}
use Rattle.normalizer_tables.specs.declared.characters.IgnoredCharacters.TheVariants.{Dropped}
use Rattle.normalizer_check.proofs.composites.PairLaws.{class_of-syllable, first-syllable, jamo_of, jamo-starts, list_of-syllable}
use Rattle.normalizer_check.proofs.composites.PairLaws.{three-composed, two-composed}

pub begins : (d : Reading) (x : List ℕ) → All (IsStarter d) x → BeginsWithStarter d x
begins d [] h = tt
begins d (c ∷ x) h = h 0 0 (omega arith)

module _ (s : Characters) (sound : (n : ℕ) → IsSoundHangul s n) where
  -- two that compose by the arithmetic of Hangul join
  joined-hangul : (pairs : List Pair) (a c r : ℕ) → class_of s a ≡ 0 → is_vowel_or_trailing_jamo c ≡ true → compose_hangul a c ≡ Some r → joined (reading_by s Dropped pairs) a [] c ≡ Some r
  unfolding joined is_blocked pair_of
  joined-hangul pairs a c r starts behind composes = rw (starts, behind) composes

  pub compose-syllable : (pairs : List Pair) (n : ℕ) → is_hangul_syllable n ≡ true → compose (reading_by s Dropped pairs) (hangul_decomposition n) ≡ n ∷ []
  unfolding hangul_decomposition compose compose_from visit is_vowel_or_trailing_jamo is_composing_jamo is_hangul_syllable
  compose-syllable pairs n h =
      let l = 0x1100 + (n - 0xAC00) / 588 in
      let v = 0x1161 + (n - 0xAC00) % 588 / 28 in
      let t = 0x11A7 + (n - 0xAC00) % 28 in
      let a = n - (n - 0xAC00) % 28 in
      let starts = jamo-starts s sound l (grind (arith, nat_tests)) in
      let inside : is_hangul_syllable a ≡ true = grind (arith, nat_tests) in
      cond_both ((n - 0xAC00) % 28 == 0) _ _ (λ x. compose (reading_by s Dropped pairs) x ≡ n ∷ [])
      (λ none. (let even = eqb-true _ _ none in rw (joined-hangul pairs l v n starts (grind (arith, nat_tests)) (two-composed n n h (omega arith)), visit)))
      (λ some. rw (
        joined-hangul pairs l v a starts (grind (arith, nat_tests)) (two-composed n a h refl),
        joined-hangul pairs a t n (class_of-syllable s sound a inside) (grind (arith, nat_tests)) (three-composed n h (eqb-false _ _ some)),
        visit,
      ))

  pub first-list : (n : ℕ) → is_hangul_syllable n ≡ true → slice_get (list_of s [] n) 0 ≡ Some (0x1100 + (n - 0xAC00) / 588)
  first-list n h = rw (list_of-syllable s sound [] n h) (first-syllable n)

  pub all-members : (P : ℕ → Type 0) → ((j : ℕ) → is_composing_jamo j ≡ true → P j) → (n : ℕ) → is_hangul_syllable n ≡ true → All P (list_of s [] n)
  all-members P each n h = rw (list_of-syllable s sound [] n h) (λ k d within. each _ (jamo_of n h k d within))
