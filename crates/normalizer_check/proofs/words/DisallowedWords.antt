-- What the word of a disallowed character says.
use Rattle.std.proofs.Common.{◌≡◌, ◌≢◌, ℕ, Bool, true, false, ◌==◌, ◌∷◌, [], Some, bit_and, refl, ap, ◌∙◌, subst, arith}
use Rattle.std.proofs.Math.Bool.{and-false}
use Rattle.std.proofs.lemmas.Bool.{eqb-true}
use Rattle.std.proofs.lemmas.Bool.Decides.{nat_tests}
use Rattle.normalizer_tables.specs.declared.word.WordReading.TheVariants.{OneCharacter}
use Rattle.normalizer_tables.specs.declared.step.Step.TheVariants.{Singleton}
use Rattle.normalizer_tables.specs.Data.{Supplement}
use Rattle.normalizer_tables.specs.Hangul.{is_hangul_syllable}
use Rattle.normalizer_tables.specs.Steps.{step_by, step_of, step_of_reading, step_to}
use Rattle.normalizer_tables.specs.Characters.{Characters, word_of, reading_of_word, as_text, named_list, list_read, list_of}
use Rattle.normalizer_tables.specs.Words.{ignored_marker, is_disallowed, is_plain, is_class_form, is_ordinary_class_form, is_special_class_form, has_high_zeros, is_non_round_trip, is_backward_combining, read, read_low}
use Rattle.normalizer_tables.proofs.words.CharacterLemmas.{list_read-scalar, list_of-reads}
use Rattle.normalizer_check.specs.inner.Walk.{IsDisallowed}
use Rattle.normalizer_check.proofs.words.FdfaWords.{masked}

module _ (w : ℕ) (is : is_disallowed w ≡ true) where
  seen : (m : ℕ) → bit_and 0xFFFFFFFF m ≡ m → bit_and w m ≡ bit_and 0x4000FFFD m
  unfolding is_disallowed
  seen m within = masked w 0xFFFFFFFF m within ∙ ap (λ v. bit_and v m) (eqb-true _ _ is)

  pub disallowed-unmarked : w ≢ ignored_marker
  unfolding is_disallowed
  disallowed-unmarked e = (let marker = subst (λ v. is_disallowed v ≡ true) e is in cc)

  pub disallowed-no_class_form : is_class_form w ≡ false
  unfolding is_class_form is_ordinary_class_form is_special_class_form
  disallowed-no_class_form = rw (seen 0x3FFFFF00 refl) refl

  pub disallowed-non_round_trip : is_non_round_trip w ≡ true
  unfolding is_non_round_trip
  disallowed-non_round_trip = rw (seen 0x40000000 refl) refl

  pub disallowed-not_backward : is_backward_combining w ≡ false
  unfolding is_backward_combining
  disallowed-not_backward = rw (seen 0x80000000 refl) refl

  read-disallowed : (c : ℕ) (is_mapper : Bool) → is_hangul_syllable c ≡ false → read c w is_mapper ≡ OneCharacter 0xFFFD
  unfolding read read_low is_plain is_ordinary_class_form is_special_class_form has_high_zeros
  read-disallowed c is_mapper other =
      let unmarked : (w == ignored_marker) ≡ false = grind (arith, nat_tests, disallowed-unmarked) in
      rw (unmarked, and-false, seen 0x3FFFFFFF refl, seen 0x3FFFFF00 refl, seen 0x3FFF0000 refl, seen 0xFFFF refl, other) refl

module _ (s : Characters) (n : ℕ) (is : IsDisallowed s n) where
  pub reading-disallowed : reading_of_word s n ≡ OneCharacter 0xFFFD
  unfolding reading_of_word
  reading-disallowed = read-disallowed (word_of s n) is.word n s.is_mapper is.other.0

  pub list_read-disallowed : list_read s [] n ≡ Some (0xFFFD ∷ [])
  unfolding named_list as_text
  list_read-disallowed = list_read-scalar s [] n (OneCharacter 0xFFFD) is.character reading-disallowed

  pub list_of-disallowed : list_of s [] n ≡ 0xFFFD ∷ []
  list_of-disallowed = list_of-reads s [] n (0xFFFD ∷ []) list_read-disallowed

  pub step_of-disallowed : (t : Supplement) → step_of s t n ≡ Some (Singleton 0xFFFD)
  unfolding step_of step_of_reading step_by step_to
  step_of-disallowed t = rw (is.other.0, reading-disallowed, list_read-disallowed) refl
