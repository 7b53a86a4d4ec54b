-- No character that a composing loop passes has a class form.
use Rattle.std.proofs.Common.{◌≡◌, ℕ, ◌<◌, ◌≤◌, Bool, true, false, not, ◌&&◌, ◌||◌, ◌==◌, List, [], ◌∷◌, None, if◌then◌else◌, refl, sym, ap, ◌∙◌, subst, arith, inl, inr, ltb-true, ne_eqb}
use Rattle.std.proofs.lemmas.Bool.{cases_Bool, or_cases}
use Rattle.std.specs.Char.{IsScalar}
use Rattle.std.specs.Option.{option_map}
use Rattle.normal_forms.specs.Boundary.{BeginsAtBoundary}
use Rattle.normalizer_tables.specs.declared.condition.Bounds.{Bounds}
use Rattle.normalizer_tables.specs.declared.condition.Condition.TheVariants.{Words}
use Rattle.normalizer_tables.specs.declared.word.WordReading.{WordReading}
use Rattle.normalizer_tables.specs.declared.word.WordReading.TheVariants.{Ignored, Itself, ClassForm, SpecialForm}
use Rattle.normalizer_tables.specs.Characters.{Characters, word_of, reading_of_word, named_list, list_of, class_of, has_class_form}
use Rattle.normalizer_tables.specs.conditions.CharacterConditions.{IsSoundWord}
use Rattle.normalizer_tables.specs.conditions.Conditions.{IsMet, says}
use Rattle.normalizer_tables.specs.conditions.Loaded.{characters_loaded}
use Rattle.normalizer_tables.specs.conditions.PairConditions.{is_composing_passthrough}
use Rattle.normalizer_tables.specs.Pairs.{Pair}
use Rattle.normalizer_tables.specs.SpecialLists.{FixedList, fixed_list_of}
use Rattle.normalizer_tables.specs.Words.{ignored_marker, class_of_word, is_plain, is_class_form, is_ordinary_class_form, is_special_class_form, is_backward_combining, is_non_round_trip}
use Rattle.normalizer_tables.specs.Words.{has_high_zeros, has_low_zeros, low_byte, two_characters, read_low, listed_reading, read}
use Rattle.normalizer_tables.specs.Readings.{reading_by}
use Rattle.normalizer_tables.specs.declared.characters.IgnoredCharacters.TheVariants.{Dropped}
use Rattle.normalizer_tables.proofs.words.CharacterLemmas.{list_read-scalar, list_of-reads, class_of-scalar}

-- all nine lie above the bound
fixed_list_of-low : (n : ℕ) → n < 0x0340 → fixed_list_of n ≡ None
unfolding fixed_list_of
fixed_list_of-low n low =
    rw (
      ne_eqb n 0x0340 (λ e. omega arith),
      ne_eqb n 0x0341 (λ e. omega arith),
      ne_eqb n 0x0343 (λ e. omega arith),
      ne_eqb n 0x0344 (λ e. omega arith),
      ne_eqb n 0x0F73
          (λ e. omega arith),
      ne_eqb n 0x0F75 (λ e. omega arith),
      ne_eqb n 0x0F81 (λ e. omega arith),
      ne_eqb n 0xFF9E (λ e. omega arith),
      ne_eqb n 0xFF9F (λ e. omega arith),
    )

-- a flagged word is passed below the bound alone
below_bound : (below n k : Bool) → k ≡ true → (below || (not n && not k)) ≡ true → below ≡ true
below_bound true n k flagged passed = refl
below_bound false true k flagged passed = cc
below_bound false false true flagged passed = cc
below_bound false false false flagged passed = cc

ordinary_either : (P : WordReading → Type 0) (marked plain ordinary : Bool) (k : ℕ) (other : WordReading) → ordinary ≡ true → P Ignored → P Itself → P (ClassForm k)
    → P (if marked then Ignored else if plain then Itself else if ordinary then ClassForm k else other)
ordinary_either P true plain ordinary k other h ignored itself form = ignored
ordinary_either P false true ordinary k other h ignored itself form = itself
ordinary_either P false false true k other h ignored itself form = form
ordinary_either P false false false k other h ignored itself form = cc

-- the word of an ordinary class form reads to one of three
read-ordinary : (P : WordReading → Type 0) (n w : ℕ) (is_mapper : Bool) → is_ordinary_class_form w ≡ true → P Ignored → P Itself → P (ClassForm (low_byte w)) → P (read n w is_mapper)
unfolding read
read-ordinary P n w is_mapper ordinary ignored itself form =
    ordinary_either P (is_mapper && (w == ignored_marker)) (is_plain w) (is_ordinary_class_form w) (low_byte w)
    (if is_special_class_form w then SpecialForm (low_byte w) else if not (has_high_zeros w) && not (has_low_zeros w) then two_characters w else if has_high_zeros w then read_low n w else listed_reading w)
    ordinary ignored itself form

module _ (s : Characters) (n : ℕ) (h : IsScalar n) where
  -- such a list is empty, or has the character alone
  list_of-ordinary : is_ordinary_class_form (word_of s n) ≡ true → (P : List ℕ → Type 0) → P [] → P (n ∷ []) → P (list_of s [] n)
  unfolding reading_of_word named_list
  list_of-ordinary ordinary P empty alone =
      read-ordinary (λ r. reading_of_word s n ≡ r → P (list_of s [] n)) n (word_of s n) s.is_mapper ordinary
      (λ e. subst P (sym (list_of-reads s [] n [] (list_read-scalar s [] n Ignored h e))) empty)
      (λ e. subst P (sym (list_of-reads s [] n (n ∷ []) (list_read-scalar s [] n Itself h e))) alone)
      (λ e. subst P (sym (list_of-reads s [] n (n ∷ []) (list_read-scalar s [] n (ClassForm (low_byte (word_of s n))) h e))) alone)
      refl

  class_of-form : is_class_form (word_of s n) ≡ true → class_of s n ≡ low_byte (word_of s n)
  unfolding class_of_word
  class_of-form form = class_of-scalar s n h ∙ rw form refl

  module _ (b : Bounds) (bounded : b.composition ≤ 0x0300) (pairs : List Pair) (words : IsMet (characters_loaded s b) Words) (are_nonempty : list_of s [] n ≡ [] → ⊥)
      (safely : BeginsAtBoundary (reading_by s Dropped pairs) (list_of s [] n)) (passed : is_composing_passthrough s b n ≡ true) where
    sound : IsSoundWord s n
    unfolding says
    sound = words.1 n h

    below : is_class_form (word_of s n) ≡ true → n < b.composition
    unfolding is_composing_passthrough
    below form = ltb-true _ _ (below_bound _ (is_non_round_trip (word_of s n)) (is_backward_combining (word_of s n)) (sound.flagged form) passed)

    not_ordinary : is_class_form (word_of s n) ≡ true → is_ordinary_class_form (word_of s n) ≡ true → ⊥
    not_ordinary form ordinary =
        let class = class_of-form form in
        let marked = (sound.class.ordinary ordinary).0 in
        list_of-ordinary ordinary (λ l. (l ≡ [] → ⊥) → BeginsAtBoundary (reading_by s Dropped pairs) l → ⊥) (λ some begins. some refl)
        (λ some begins. let starter : class_of s n ≡ 0 = begins.0 in omega arith) are_nonempty safely

    not_special : is_class_form (word_of s n) ≡ true → is_special_class_form (word_of s n) ≡ true → ⊥
    not_special form special =
        let low : n < 0x0340 = (let bound = below form in omega arith) in
        let none = ap (option_map (λ (f : FixedList). f.class)) (fixed_list_of-low n low) in
        cc (none, sound.class.special special)

    pub no_class_form-passed : has_class_form s n ≡ false
    unfolding has_class_form is_class_form
    no_class_form-passed =
        elim (cases_Bool (is_class_form (word_of s n))) [
          | inr other ↦ other
          | inl form ↦ elim (or_cases (is_ordinary_class_form (word_of s n)) (is_special_class_form (word_of s n)) form) [
            | inl ordinary ↦ absurd (not_ordinary form ordinary)
            | inr special ↦ absurd (not_special form special)
          ]
        ]
