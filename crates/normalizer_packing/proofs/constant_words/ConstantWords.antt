-- Neighbours of which data say nothing have the same words.
use Rattle.std.proofs.Common.{◌≡◌, ◌≢◌, ◌∙◌, ℕ, ◌+◌, Bool, eqb-true, List, [], ◌∷◌, map, Contains, Option, Some, None, refl, sym, ap, subst, arith, inl, inr}
use Rattle.std.specs.List.{AllByRecursion}
use Rattle.std.proofs.lemmas.Bool.{and_parts}
use Rattle.std.proofs.lemmas.List.{get_or_default}
use Rattle.std.proofs.lemmas.Bool.Decides.{nat_tests}
use Rattle.std.proofs.lemmas.List.Elements.{Contains-append_left, Contains-append_right, recursion_from_All}
use Rattle.normal_forms.specs.Composition.{compose, compose_from, visit}
use Rattle.normal_forms.specs.Reading.{Reading}
use Rattle.normalizer_tables.specs.conditions.CharacterConditions.{is_surrogate}
use Rattle.normalizer_tables.specs.Hangul.{is_hangul_syllable}
use Rattle.normalizer_tables.specs.HangulComposition.{compose_hangul, is_trailing_consonant, is_vowel}
use Rattle.normalizer_tables.specs.Pairs.{Pair, IsNeverSecond, is_of, is_vowel_or_trailing_jamo, listed_result, pair_of}
use Rattle.normalizer_tables.specs.declared.entry.Kind.{Kind}
use Rattle.normalizer_packing.specs.declared.spelling.Spelling.{Spelling}
use Rattle.normalizer_packing.specs.declared.spelling.Spelling.TheVariants.{Final, Short}
use Rattle.normalizer_tables.specs.Entries.{EntryValue, class_in, reading_of_entries, entry_of, kept_list, list_in}
use Rattle.normalizer_packing.specs.Flags.{IsFlagged}
use Rattle.normalizer_packing.specs.Packing.{HasFlags, IsPackedWord, IsSpelled}
use Rattle.normalizer_packing.specs.Spelling.{final_word, spelling, spelling_by_list, spelling_or_ignored}
use Rattle.normalizer_tables.specs.declared.step.Step.TheVariants.{Default}
use Rattle.normalizer_packing.specs.StepWords.{step_in, step_lists, word_of_step}
use Rattle.normalizer_packing.specs.inner.Breakpoints.{IsConstantBetween, AreBreakpoints}
use Rattle.normalizer_packing.specs.declared.breakpoints.TheConstants.{EDGES}
use Rattle.normalizer_packing.proofs.entry_data.EntryLemmas.{Contains-map, find-missing, find-tells}
use Rattle.normalizer_packing.proofs.reading_back.WordsReadBack.{no_fixed-alone}
use Rattle.normalizer_packing.proofs.lists.TableLemmas.{eq_list}
use Rattle.normalizer_packing.proofs.words_of_lists.SpelledWords.{final_packs, short_packs}

-- a second that no pair has
listed-missing : (pairs : List Pair) (first n : ℕ) → (Contains (map (λ p. p.0) pairs) n → ⊥) → listed_result pairs first n ≡ None
unfolding listed_result is_of
listed-missing pairs first n missing = elim (find-tells {X = Pair} (λ p. is_of p first n) pairs) as (λ _. listed_result pairs first n ≡ None) [
  | inl none ↦ rw none.0 refl
  | inr some ↦ absurd (missing (subst (Contains (map (λ p. p.0) pairs)) (eqb-true _ _ (and_parts _ _ some.3).0) (Contains-map (λ (p : Pair). p.0) pairs some.0 some.2)))
]

pub compose-alone : (d : Reading) (n : ℕ) → compose d (n ∷ []) ≡ n ∷ []
unfolding compose compose_from visit
compose-alone d n = refl

-- the spelling of a starter that decomposes to itself, by its final word
abbrev plain : Option ℕ → Spelling
plain (Some w) = Final w
plain None = Short 0

-- what is known of n if data say nothing of it
pub record IsUnlisted (entries : List EntryValue) (pairs : List Pair) (n : ℕ) : Type 0 where
  pub entry : entry_of entries n ≡ None
  pub listed : (first : ℕ) → listed_result pairs first n ≡ None
  pub apart : AllByRecursion (λ e. e ≢ n) EDGES

module _ (entries : List EntryValue) (pairs : List Pair) (breakpoints : List ℕ) (lists : AreBreakpoints entries pairs breakpoints) where
  pub IsUnlisted-missing : (n : ℕ) → (Contains breakpoints n → ⊥) → IsUnlisted entries pairs n
  unfolding entry_of
  IsUnlisted-missing n unlisted = record {
    entry = find-missing {X = EntryValue} (λ e. e.character) entries n (λ k. unlisted (lists.all n (Contains-append_left _ EDGES n (Contains-append_left _ _ n k))));
    listed = λ first. listed-missing pairs first n (λ k. unlisted (lists.all n (Contains-append_left _ EDGES n (Contains-append_right _ _ n k))));
    apart = recursion_from_All (λ e. e ≢ n) EDGES (λ k d within same. unlisted (lists.all n (Contains-append_right _ EDGES n (k, within, get_or_default EDGES k n d within ∙ same))));
  }

-- what composition of Hangul requires of a second
abbrev jamo : ℕ → Bool × Bool × Bool
jamo n = (is_vowel n, is_trailing_consonant n, is_vowel_or_trailing_jamo n)

-- if nothing composes with one second, nothing does with another of the same jamo that no pair has
never_alike : (pairs : List Pair) (a b : ℕ) → jamo a ≡ jamo b → ((first : ℕ) → listed_result pairs first b ≡ None) → IsNeverSecond pairs a → IsNeverSecond pairs b
unfolding IsNeverSecond pair_of compose_hangul
never_alike pairs a b same listed never first =
    let vowel = ap (λ j. j.0) same in let trailing = ap (λ j. j.1) same in let any = ap (λ j. j.2) same in let before = never first in let unlisted = listed first in grind (arith, nat_tests)

module _ (entries : List EntryValue) (pairs : List Pair) (n : ℕ) (one : IsUnlisted entries pairs n) (next : IsUnlisted entries pairs (n + 1)) where
  same_jamo : jamo n ≡ jamo (n + 1)
  unfolding is_vowel is_trailing_consonant is_vowel_or_trailing_jamo
  same_jamo =
      let vowel : is_vowel n ≡ is_vowel (n + 1) = grind (arith, nat_tests, next.apart) in
      let trailing : is_trailing_consonant n ≡ is_trailing_consonant (n + 1) = grind (arith, nat_tests, next.apart) in
      let any : is_vowel_or_trailing_jamo n ≡ is_vowel_or_trailing_jamo (n + 1) = grind (arith, nat_tests, next.apart) in cc

  pub same_final : final_word n ≡ final_word (n + 1)
  unfolding final_word is_hangul_syllable is_surrogate
  same_final = grind (arith, nat_tests, one.apart, next.apart)

  flags_next : (d : Reading) (w : ℕ) → IsFlagged d pairs n (n ∷ []) w → IsFlagged d pairs (n + 1) ((n + 1) ∷ []) w
  flags_next d w h =
      record {
        within = h.within;
        round_trip = (λ clear. compose-alone d (n + 1), λ alone. h.round_trip.1 (compose-alone d n));
        backward = (
          λ clear. (let k = h.backward.0 clear in (k.0, never_alike pairs n (n + 1) same_jamo next.listed k.1)),
          λ k. h.backward.1 (k.0, never_alike pairs (n + 1) n (sym same_jamo) one.listed k.1),
        );
      }

module _ (entries : List EntryValue) (kind : Kind) (n : ℕ) (none : entry_of entries n ≡ None) where
  kept-none : kept_list kind entries n ≡ n ∷ []
  unfolding kept_list list_in
  kept-none = rw (none, list_in) refl

  spelled-none : spelling (class_in entries) n (list_in kind entries n) ≡ plain (final_word n)
  unfolding spelling spelling_or_ignored spelling_by_list list_in class_in
  spelled-none = let free = no_fixed-alone (class_in entries) n in let alone = eq_list (n ∷ []) (n ∷ []) refl in grind arith

module _ (entries : List EntryValue) (pairs : List Pair) (breakpoints : List ℕ) (lists : AreBreakpoints entries pairs breakpoints) where
  pub packed_alike : (kind : Kind) → IsConstantBetween (IsPackedWord kind entries pairs) breakpoints
  unfolding IsConstantBetween
  packed_alike kind n w unlisted next h =
      let first = spelled-none entries kind n one.entry in
      go (final_word n) (spelled-none entries kind (n + 1) two.entry ∙ ap plain (sym (same_final entries pairs n one two))) (rw first at h.spelled) (rw first at h.flags)
    where
      one : IsUnlisted entries pairs n
      one = IsUnlisted-missing entries pairs breakpoints lists n unlisted

      two : IsUnlisted entries pairs (n + 1)
      two = IsUnlisted-missing entries pairs breakpoints lists (n + 1) next

      go : (o : Option ℕ) → spelling (class_in entries) (n + 1) (list_in kind entries (n + 1)) ≡ plain o → IsSpelled entries (kept_list kind entries n) (plain o) w →
          HasFlags kind entries pairs n (plain o) w → IsPackedWord kind entries pairs (n + 1) w
      go (Some v) second spelled flags = final_packs kind entries pairs (n + 1) w (second ∙ ap Final (sym spelled))
      go None second spelled flags =
          short_packs kind entries pairs (n + 1) 0 w second spelled
          (rw (kept-none entries kind (n + 1) two.entry) (flags_next entries pairs n one two (reading_of_entries entries pairs) w (rw (kept-none entries kind n one.entry) at flags)))

  step-none : (n : ℕ) → entry_of entries n ≡ None → step_in entries n ≡ Default
  unfolding step_in
  step-none n none = rw (none, step_in) refl

  pub steps_alike : IsConstantBetween (λ n w. w ≡ word_of_step (step_lists entries) (step_in entries n)) breakpoints
  unfolding IsConstantBetween
  steps_alike n w unlisted next h =
      let one = step-none n (IsUnlisted-missing entries pairs breakpoints lists n unlisted).entry in
      let two = step-none (n + 1) (IsUnlisted-missing entries pairs breakpoints lists (n + 1) next).entry in h ∙ ap (word_of_step (step_lists entries)) (one ∙ sym two)
