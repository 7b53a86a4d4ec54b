-- The class in the word of a character that is its own list.
use Rattle.std.proofs.Common.{◌≡◌, ◌≢◌, ◌==◌, ℕ, Bool, true, false, inl, inr, Some, refl, sym, ap, subst, ◌∙◌, true≢false, arith}
use Rattle.std.proofs.Math.Bool.{and-false}
use Rattle.std.proofs.lemmas.Bool.{cases_Bool, or_parts}
use Rattle.std.proofs.lemmas.Bool.Decides.{nat_tests}
use Rattle.normalizer_tables.specs.Characters.{Characters, class_of_itself, reading_of_word, word_of}
use Rattle.normalizer_tables.specs.Words.{ignored_marker, is_plain, is_class_form, is_ordinary_class_form, low_byte, read}
use Rattle.normalizer_tables.proofs.conditions.ConditionLemmas.{plain-no_class_form, read-plain}

module _ (n w : ℕ) (is_mapper : Bool) where
  no_marker : is_ordinary_class_form w ≡ true → w ≢ ignored_marker
  unfolding is_ordinary_class_form
  no_marker h e = (let ordinary = subst (λ v. is_ordinary_class_form v ≡ true) e h in cc)

  no_plain : is_ordinary_class_form w ≡ true → is_plain w ≡ false
  unfolding is_class_form
  no_plain h = elim (cases_Bool (is_plain w)) [
    | inl plain ↦ absurd (true≢false (sym h ∙ (or_parts _ _ (plain-no_class_form w plain)).0))
    | inr other ↦ other
  ]

  of_ordinary : is_ordinary_class_form w ≡ true → class_of_itself (read n w is_mapper) ≡ Some (low_byte w)
  unfolding class_of_itself read
  of_ordinary h =
      let other = no_marker h in
      let unmarked : (w == ignored_marker) ≡ false = grind (arith, nat_tests) in
      rw (unmarked, and-false, no_plain h, h) refl

module _ (s : Characters) (n : ℕ) where
  pub class_of_itself-plain : is_plain (word_of s n) ≡ true → class_of_itself (reading_of_word s n) ≡ Some 0
  unfolding reading_of_word class_of_itself
  class_of_itself-plain h = ap class_of_itself (read-plain n (word_of s n) s.is_mapper h)

  pub class_of_itself-ordinary : is_ordinary_class_form (word_of s n) ≡ true → class_of_itself (reading_of_word s n) ≡ Some (low_byte (word_of s n))
  unfolding reading_of_word
  class_of_itself-ordinary h = of_ordinary n (word_of s n) s.is_mapper h
