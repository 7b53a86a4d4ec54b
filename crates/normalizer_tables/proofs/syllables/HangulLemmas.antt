-- Which characters make Hangul syllables.
use Rattle.std.proofs.Common.{Option, ◌<◌, ◌⊎◌, inl, inr, ◌/◌, ◌%◌, [], ◌∷◌, ap, ◌&&◌, ◌≡◌, ℕ, ◌+◌, ◌-◌, ◌*◌, ◌≤◌, arith}
use Rattle.std.proofs.Common.{true, not, IsTrue, ◌↔◌, Some, None}
use Rattle.std.proofs.lemmas.Bool.Decides.{nat_tests}
use Rattle.std.proofs.lemmas.Bool.{cases_Bool}
use Rattle.std.proofs.Math.Utf8.{low_scalar}
use Rattle.std.specs.Char.{IsScalar}
use Rattle.std.specs.Option.{SomeIff}
use Rattle.normalizer_tables.specs.Hangul.{is_hangul_syllable, hangul_decomposition}
use Rattle.normalizer_tables.specs.Pairs.{is_vowel_or_trailing_jamo}
use Rattle.normalizer_tables.specs.HangulComposition.{is_leading_consonant, is_vowel, is_trailing_consonant, is_lv_syllable, lv_syllable, compose_hangul}

-- a number below the surrogates is that of a character
pub below_surrogates : (n : ℕ) → n < 0xD800 → IsScalar n
below_surrogates n low = low_scalar n low

-- the result of `from_u32` for a number below the surrogates
pub low_character : (r : Option ℕ) (n : ℕ) → SomeIff r (IsScalar n) n → n < 0xD800 → r ≡ Some n
low_character None n h low = absurd (h (low_scalar n low))
low_character (Some x) n h low = ap Some h.1

pub is_hangul_syllable-true : (c : ℕ) → is_hangul_syllable c ≡ true → (0xAC00 ≤ c) × (c ≤ 0xD7A3)
unfolding is_hangul_syllable
is_hangul_syllable-true c h = (grind arith, grind arith)

pub compose_hangul-lv : (leading vowel : ℕ) → is_leading_consonant leading ≡ true → is_vowel vowel ≡ true →
    compose_hangul leading vowel ≡ Some (0xAC00 + ((leading - 0x1100) * 588 + (vowel - 0x1161) * 28))
unfolding compose_hangul lv_syllable
compose_hangul-lv leading vowel h k = grind arith

pub compose_hangul-lvt : (syllable trailing : ℕ) → is_lv_syllable syllable ≡ true → is_trailing_consonant trailing ≡ true → compose_hangul syllable trailing ≡ Some (syllable + (trailing - 0x11A7))
unfolding compose_hangul is_leading_consonant is_lv_syllable is_hangul_syllable
compose_hangul-lvt syllable trailing h k = grind (arith, nat_tests)

-- what is neither a vowel nor a trailing consonant is second in no pair
pub never_hangul_second : (second : ℕ) → IsTrue (not (is_vowel second) && not (is_trailing_consonant second)) ↔ ((first : ℕ) → compose_hangul first second ≡ None)
unfolding compose_hangul is_leading_consonant is_lv_syllable is_hangul_syllable
never_hangul_second second = (λ h first. grind arith, λ none. (let vowel = none 0x1100 in let trailing = none 0xAC00 in grind arith))

-- a leading consonant and a vowel make a syllable
pub record IsLv (l v r : ℕ) : Type 0 where
  pub leading : (0x1100 ≤ l) × (l ≤ 0x1112)
  pub vowel : (0x1161 ≤ v) × (v ≤ 0x1175)
  pub value : r ≡ 0xAC00 + ((l - 0x1100) * 588 + (v - 0x1161) * 28)

-- a syllable of two jamo and a trailing consonant make one of three
pub record IsLvt (s t r : ℕ) : Type 0 where
  pub syllable : (0xAC00 ≤ s) × (s ≤ 0xD7A3)
  pub two_jamo : (s - 0xAC00) % 28 ≡ 0
  pub trailing : (0x11A8 ≤ t) × (t ≤ 0x11C2)
  pub value : r ≡ s + (t - 0x11A7)

pub compose_hangul-some : (first second result : ℕ) → compose_hangul first second ≡ Some result → IsLv first second result ⊎ IsLvt first second result
unfolding compose_hangul lv_syllable is_lv_syllable is_leading_consonant is_vowel is_trailing_consonant is_hangul_syllable
compose_hangul-some first second result joined = elim (cases_Bool (is_leading_consonant first && is_vowel second)) [
  | inl both ↦ inl (record { leading = grind arith; vowel = grind arith; value = grind arith })
  | inr other ↦ inr (record { syllable = grind arith; two_jamo = grind arith; trailing = grind arith; value = grind arith })
]

pub hangul_decomposition-lv : (l v r : ℕ) → IsLv l v r → hangul_decomposition r ≡ l ∷ v ∷ []
unfolding hangul_decomposition
hangul_decomposition-lv l v r h = grind arith

pub hangul_decomposition-two : (s : ℕ) → (s - 0xAC00) % 28 ≡ 0 → hangul_decomposition s ≡ (0x1100 + (s - 0xAC00) / 588) ∷ (0x1161 + (s - 0xAC00) % 588 / 28) ∷ []
unfolding hangul_decomposition
hangul_decomposition-two s none = grind arith

pub hangul_decomposition-lvt : (s t r : ℕ) → IsLvt s t r → hangul_decomposition r ≡ (0x1100 + (s - 0xAC00) / 588) ∷ (0x1161 + (s - 0xAC00) % 588 / 28) ∷ t ∷ []
unfolding hangul_decomposition
hangul_decomposition-lvt s t r h = grind arith

-- the numbers of what is joined
pub lv_ranges : (l v : ℕ) → is_leading_consonant l ≡ true → is_vowel v ≡ true → (0x1100 ≤ l) × (l ≤ 0x1112) × (0x1161 ≤ v) × (v ≤ 0x1175)
unfolding is_leading_consonant is_vowel
lv_ranges l v h k = (grind arith, grind arith, grind arith, grind arith)

pub trailing_range : (t : ℕ) → is_trailing_consonant t ≡ true → (0x11A8 ≤ t) × (t ≤ 0x11C2)
unfolding is_trailing_consonant
trailing_range t h = (grind arith, grind arith)

-- what joining two characters needs
pub ruleset compositions = (lv_ranges, trailing_range, is_hangul_syllable-true, low_character, compose_hangul-lv, compose_hangul-lvt)
