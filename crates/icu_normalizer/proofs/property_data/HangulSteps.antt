-- The step of a Hangul syllable, and its list.
use Rattle.std.proofs.Common.{◌≡◌, ◌≢◌, ℕ, ◌+◌, ◌-◌, ◌/◌, ◌%◌, inl, inr, true, [], ◌∷◌, ◌++◌, Some, refl, sym, ◌∙◌, eq-eqb, ne_eqb, arith}
use Rattle.std.proofs.Math.Utf8.{low_scalar}
use Rattle.std.proofs.lemmas.Bool.{cases_eq}
use Rattle.std.proofs.lemmas.Bool.Decides.{nat_tests}
use Rattle.std.proofs.lemmas.List.Elements.{All-nil}
use Rattle.normal_forms.specs.Order.{order}
use Rattle.normalizer_tables.specs.declared.condition.Condition.TheVariants.{Hangul}
use Rattle.normalizer_tables.specs.declared.step.Step.TheVariants.{Expansion}
use Rattle.normalizer_tables.specs.Characters.{Characters, as_text, list_of}
use Rattle.normalizer_tables.specs.conditions.Conditions.{IsMet}
use Rattle.normalizer_tables.specs.conditions.Loaded.{characters_loaded}
use Rattle.normalizer_tables.specs.conditions.PairConditions.{HasOrderedLists}
use Rattle.normalizer_tables.specs.Data.{Supplement}
use Rattle.normalizer_tables.specs.Hangul.{is_hangul_syllable, hangul_decomposition}
use Rattle.normalizer_tables.specs.Pairs.{pair_of, is_vowel_or_trailing_jamo}
use Rattle.normalizer_tables.specs.declared.condition.Bounds.{Bounds}
use Rattle.normalizer_tables.specs.Steps.{hangul_mapping, step_by, step_of, step_to}
use Rattle.normalizer_tables.specs.Readings.{reading_by}
use Rattle.normalizer_tables.specs.declared.characters.IgnoredCharacters.TheVariants.{Dropped}
use Rattle.normalizer_check.proofs.composites.PairLaws.{HasFaithfulResults-reading_of, apart-syllable, list_of-syllable, sound_hangul, three-composed, two-composed}
use Rattle.normalizer_tables.proofs.lists.SoundLists.{order-own}

-- the two characters that a syllable maps to, which compose to it
pub record IsHangulMapping (n a b : ℕ) : Type 0 where
  pub mapping : hangul_mapping n ≡ a ∷ b ∷ []
  pub text : as_text (a ∷ b ∷ []) ≡ Some (a ∷ b ∷ [])
  pub composes : pair_of [] a b ≡ Some n

pub has_mapping : (n : ℕ) → is_hangul_syllable n ≡ true → (a : ℕ) × (b : ℕ) × IsHangulMapping n a b
unfolding hangul_mapping hangul_decomposition as_text pair_of is_vowel_or_trailing_jamo is_hangul_syllable
has_mapping n h = elim (cases_eq ((n - 0xAC00) % 28) 0) [
  | inl none ↦
      let l = 0x1100 + (n - 0xAC00) / 588 in
      let v = 0x1161 + (n - 0xAC00) % 588 / 28 in
      let behind : is_vowel_or_trailing_jamo v ≡ true = grind (arith, nat_tests) in (
        l,
        v,
        record {
          mapping = rw (eq-eqb _ _ none) refl;
          text = rw (low_scalar l (grind (arith, nat_tests)), low_scalar v (omega arith)) refl;
          composes = rw behind (two-composed n n h (omega arith));
        },
      )
  | inr some ↦
      let a = n - (n - 0xAC00) % 28 in
      let t = 0x11A7 + (n - 0xAC00) % 28 in
      let behind : is_vowel_or_trailing_jamo t ≡ true = grind (arith, nat_tests) in (
        a,
        t,
        record {
          mapping = rw (ne_eqb _ _ some) refl;
          text = rw (low_scalar a (grind (arith, nat_tests)), low_scalar t (omega arith)) refl;
          composes = rw behind (three-composed n h some);
        },
      )
]

pub step_of-hangul : (s : Characters) (t : Supplement) (n a b : ℕ) → is_hangul_syllable n ≡ true → IsHangulMapping n a b → step_of s t n ≡ Some (Expansion a b)
unfolding step_of step_by step_to
step_of-hangul s t n a b syllable h = rw (syllable, h.mapping, h.text)

pub list_of-hangul : (s : Characters) (b : Bounds) → IsMet (characters_loaded s b) Hangul → (n first second : ℕ)
    → IsHangulMapping n first second → list_of s [] n ≡ order (reading_by s Dropped []) (list_of s [] first ++ list_of s [] second)
list_of-hangul s b hangul n first second h =
    (HasFaithfulResults-reading_of s b hangul [] [] (All-nil (HasOrderedLists s []))).results first second n h.composes ∙ sym (order-own s [] (pair_of []) _)

-- a syllable's list has two members or three
pub list_of-hangul_apart : (s : Characters) (b : Bounds) → IsMet (characters_loaded s b) Hangul → (n : ℕ) → is_hangul_syllable n ≡ true → list_of s [] n ≢ n ∷ []
list_of-hangul_apart s b hangul n h e = apart-syllable n n (sym (list_of-syllable s (sound_hangul s b hangul) [] n h) ∙ e)
