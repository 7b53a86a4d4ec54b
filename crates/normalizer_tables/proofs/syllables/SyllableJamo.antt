-- The jamo of Hangul syllables.
use Rattle.std.proofs.Common.{◌≡◌, ◌≢◌, ℕ, ◌+◌, ◌-◌, ◌/◌, ◌%◌, ◌≤◌, true, false, List, [], ◌∷◌, Some, if◌then◌else◌, ◌==◌, refl, arith, Bool}
use Rattle.std.proofs.Math.Utf8.{low_scalar}
use Rattle.std.proofs.lemmas.Bool.Decides.{nat_tests}
use Rattle.std.specs.Char.{IsScalar}
use Rattle.normalizer_tables.specs.Characters.{Characters, as_text, list_of, list_read, named_list, reading_of_word, word_of}
use Rattle.normalizer_tables.specs.Words.{has_high_zeros, has_low_zeros, is_ordinary_class_form, is_plain, is_special_class_form, read, read_low}
use Rattle.normalizer_tables.specs.declared.word.WordReading.TheVariants.{HangulSyllable}
use Rattle.normalizer_tables.specs.Hangul.{is_hangul_syllable, hangul_decomposition, l_base, v_base, t_base, s_base, n_count, t_count}

pub syllable-range : (c : ℕ) → is_hangul_syllable c ≡ true → c ≤ 0xD7A3
unfolding is_hangul_syllable
syllable-range c h = grind (arith, nat_tests)

-- a conjoining jamo, of the block Hangul Jamo
abbrev pub IsJamo : ℕ → Type 0
IsJamo c = (0x1100 ≤ c) × (c ≤ 0x11FF)

-- what holds of two jamo, and of three, holds of those of a syllable
pub by_jamo : (P : List ℕ → Type 0) (c : ℕ) → is_hangul_syllable c ≡ true → ((l v : ℕ) → IsJamo l → IsJamo v → P (l ∷ v ∷ [])) →
    ((l v t : ℕ) → IsJamo l → IsJamo v → IsJamo t → P (l ∷ v ∷ t ∷ [])) → P (hangul_decomposition c)
unfolding hangul_decomposition
by_jamo P c h two three =
    let range = syllable-range c h in
    let l : ℕ = l_base + (c - s_base) / n_count in
    let v : ℕ = v_base + (c - s_base) % n_count / t_count in
    let t : ℕ = t_base + (c - s_base) % t_count in
    elim ((c - s_base) % t_count == 0) as (λ b. P (if b then l ∷ v ∷ [] else l ∷ v ∷ t ∷ [])) [
      | true ↦ two l v (omega arith, omega arith) (omega arith, omega arith)
      | false ↦ three l v t (omega arith, omega arith) (omega arith, omega arith) (omega arith, omega arith)
    ]

pub jamo_some : (c : ℕ) → is_hangul_syllable c ≡ true → hangul_decomposition c ≢ []
jamo_some c h = by_jamo (λ x. x ≢ []) c h (λ l v first second e. cc) (λ l v t first second third e. cc)

-- the jamo of a syllable are characters
pub jamo_are_text : (c : ℕ) → is_hangul_syllable c ≡ true → as_text (hangul_decomposition c) ≡ Some (hangul_decomposition c)
unfolding as_text
jamo_are_text c h = by_jamo (λ x. as_text x ≡ Some x) c h
    (λ l v first second. rw (low_scalar l (omega arith), low_scalar v (omega arith)) refl)
    (λ l v t first second third. rw (low_scalar l (omega arith), low_scalar v (omega arith), low_scalar t (omega arith)) refl)

-- the word of syllables reads as that of one
reading-syllable : (c : ℕ) (is_mapper : Bool) → is_hangul_syllable c ≡ true → read c 1 is_mapper ≡ HangulSyllable
unfolding read read_low is_plain is_ordinary_class_form is_special_class_form has_high_zeros has_low_zeros
reading-syllable c true syllable = rw syllable refl
reading-syllable c false syllable = rw syllable refl

-- the list of a syllable whose word is that of syllables
pub listed_syllables : (s : Characters) (ignored : List ℕ) (c : ℕ) → IsScalar c → word_of s c ≡ 1 → is_hangul_syllable c ≡ true → list_of s ignored c ≡ hangul_decomposition c
unfolding list_of list_read named_list reading_of_word
listed_syllables s ignored c valid word syllable = rw (valid, word, reading-syllable c s.is_mapper syllable, jamo_are_text c syllable) refl
