-- Which words have the form of U+FDFA.
use Rattle.std.proofs.Common.{◌≡◌, ◌≢◌, ◌↔◌, ℕ, ◌/◌, ◌%◌, ◌*◌, ◌^◌, ◌<◌, ◌≤◌, Bool, true, false, not, ◌==◌, IsTrue, inl, inr, bit_and, refl, sym, ap, subst, ◌∙◌, arith}
use Rattle.std.specs.Char.{IsScalar}
use lib.Utf8.{scalar}
use Rattle.std.proofs.lemmas.Bool.{false_from_ne_true}
use Rattle.std.proofs.lemmas.Bool.Decides.{nat_tests}
use Rattle.std.proofs.lemmas.Nat.{and_assoc, and_mask}
use Rattle.std.proofs.lemmas.Nat.Bits.{and_high}
use Rattle.normalizer_tables.specs.declared.word.WordReading.TheVariants.{Fdfa}
use Rattle.normalizer_tables.specs.Hangul.{is_hangul_syllable}
use Rattle.normalizer_tables.specs.Ranges.{IsComplete}
use Rattle.normalizer_tables.specs.conditions.StepConditions.{AvoidsFdfa}
use Rattle.normalizer_tables.specs.Table.{code_points, word_at}
use Rattle.normalizer_tables.specs.Characters.{Characters, word_of, reading_of_word}
use Rattle.normalizer_tables.specs.Words.{is_plain, is_ordinary_class_form, is_special_class_form, has_high_zeros, read, read_low, two_characters, listed_reading}
use Rattle.normalizer_tables.specs.conditions.CharacterConditions.{is_surrogate}
use Rattle.normalizer_tables.proofs.conditions.ConditionLemmas.{no_scalar}
use Rattle.normalizer_tables.proofs.code_points.Tables.{word_at-past}

-- a mask within others sees what it sees of the bits of those
pub masked : (w all m : ℕ) → bit_and all m ≡ m → bit_and w m ≡ bit_and (bit_and w all) m
masked w all m within = sym (ap (bit_and w) within) ∙ sym (and_assoc m w all)

-- flags aside, such a word is 1
read-fdfa : (c w : ℕ) (is_mapper : Bool) → read c w is_mapper ≡ Fdfa → (is_hangul_syllable c ≡ false) × (bit_and w 0x3FFFFFFF ≡ 1)
unfolding read read_low two_characters listed_reading has_high_zeros
read-fdfa c w is_mapper e = (
  grind arith,
  (
      let high : bit_and w 0x3FFF0000 ≡ (w / 2 ^ 16 % 2 ^ 14) * 2 ^ 16 = and_high w 14 16 in
      let last : bit_and w 0xFFFF ≡ w % 2 ^ 16 = and_mask w 16 in
      let all : bit_and w 0x3FFFFFFF ≡ w % 2 ^ 30 = and_mask w 30 in
      grind (arith, nat_tests)),
)

read-one : (c w : ℕ) (is_mapper : Bool) → is_hangul_syllable c ≡ false → bit_and w 0x3FFFFFFF ≡ 1 → read c w is_mapper ≡ Fdfa
unfolding read read_low is_plain is_ordinary_class_form is_special_class_form has_high_zeros
read-one c w is_mapper other one =
    let forms : bit_and w 0x3FFFFF00 ≡ bit_and (bit_and w 0x3FFFFFFF) 0x3FFFFF00 = masked w 0x3FFFFFFF 0x3FFFFF00 refl in
    let high : bit_and w 0x3FFF0000 ≡ bit_and (bit_and w 0x3FFFFFFF) 0x3FFF0000 = masked w 0x3FFFFFFF 0x3FFF0000 refl in
    let low : bit_and w 0xFFFF ≡ bit_and (bit_and w 0x3FFFFFFF) 0xFFFF = masked w 0x3FFFFFFF 0xFFFF refl in
    grind arith

-- the word of a Hangul syllable never has the form
pub syllable_avoids : (c w : ℕ) (is_mapper : Bool) → is_hangul_syllable c ≡ true → read c w is_mapper ≢ Fdfa
syllable_avoids c w is_mapper syllable e = grind (arith, read-fdfa)

-- another word has this form if it is 1, flags aside
pub other_avoids : (c w : ℕ) (is_mapper : Bool) → is_hangul_syllable c ≡ false → IsTrue (not (bit_and w 0x3FFFFFFF == 1)) ↔ (read c w is_mapper ≢ Fdfa)
other_avoids c w is_mapper other = (λ yes e. (let form = read-fdfa c w is_mapper e in grind arith), λ avoids. (let one = read-one c w is_mapper other in grind arith))

-- the numbers past the code points have one word
pub AvoidsFdfa-past : (s : Characters) → IsComplete s.decompositions.table → AvoidsFdfa s 0x110000 → (n : ℕ) → 0x110000 ≤ n → AvoidsFdfa s n
unfolding AvoidsFdfa reading_of_word word_of code_points is_hangul_syllable
AvoidsFdfa-past s complete avoids n past e =
    let form = read-fdfa n (word_of s n) s.is_mapper e in
    let same : word_at s.decompositions.table 0x110000 ≡ word_at s.decompositions.table n = word_at-past _ 0x110000 complete (omega arith) ∙ sym (word_at-past _ n complete (omega arith)) in
    avoids (read-one 0x110000 (word_of s 0x110000) s.is_mapper refl (ap (λ w. bit_and w 0x3FFFFFFF) same ∙ form.1))

-- surrogates and the numbers past the code points are all that are no characters
pub AvoidsFdfa-elsewhere : (s : Characters) → IsComplete s.decompositions.table → ((n : ℕ) → 0xD800 ≤ n → n < 0xE000 → AvoidsFdfa s n) → AvoidsFdfa s 0x110000 →
    (n : ℕ) → (IsScalar n → ⊥) → AvoidsFdfa s n
unfolding is_surrogate code_points
AvoidsFdfa-elsewhere s complete surrogates avoids n other = elim (no_scalar n (false_from_ne_true (scalar n) other)) [
  | inl surrogate ↦ surrogates n (grind (arith, nat_tests)) (grind (arith, nat_tests))
  | inr past ↦ AvoidsFdfa-past s complete avoids n past
]

pub surrogate_elsewhere : (n : ℕ) → 0xD800 ≤ n → n < 0xE000 → IsScalar n → ⊥
surrogate_elsewhere n low high is = grind (arith, nat_tests)

pub past_elsewhere : IsScalar 0x110000 → ⊥
past_elsewhere is = cc

-- a word that was looked up
pub AvoidsFdfa-word : (s : Characters) (n w : ℕ) → w ≡ word_of s n → (r : Bool) → ((m : Bool) → IsTrue r ↔ (read n w m ≢ Fdfa)) → IsTrue r ↔ AvoidsFdfa s n
unfolding AvoidsFdfa reading_of_word
AvoidsFdfa-word s n w e r avoids = subst (λ v. IsTrue r ↔ (read n v s.is_mapper ≢ Fdfa)) e (avoids s.is_mapper)
