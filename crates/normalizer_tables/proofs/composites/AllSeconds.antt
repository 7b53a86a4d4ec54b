-- The list of all characters that may be second in a pair.
use Rattle.std.proofs.Common.{◌≡◌, ℕ, ◌+◌, ◌<◌, ◌≤◌, ◌++◌, ◌∷◌, Contains, true, inl, inr, List, [], length, get_or, take, arith, sym, subst, ◌∙◌}
use Rattle.std.specs.Prelude.{◌==◌}
use Rattle.std.specs.List.{list_any}
use Rattle.std.proofs.Math.Seq.{take-length}
use Rattle.std.proofs.lemmas.Bool.{cases_lt, eqb-true, or_cases, true≢false}
use Rattle.std.proofs.lemmas.Bool.Decides.{nat_tests}
use Rattle.std.proofs.lemmas.List.Elements.{Contains-append_left, Contains-push}
use Rattle.std.proofs.lemmas.List.Folds.{list_any_more}
use Rattle.normalizer_tables.specs.Pairs.{Pair, is_listed_second, is_vowel_or_trailing_jamo, may_be_second}

-- vowels and trailing consonants below a number are in the list
abbrev pub HasJamoTo : ℕ → List ℕ → Type 0
HasJamoTo number seconds = (n : ℕ) → 0x1161 ≤ n → n < number → Contains seconds n

pub HasJamoTo-more : (number : ℕ) (seconds : List ℕ) → HasJamoTo number seconds → HasJamoTo (number + 1) (seconds ++ number ∷ [])
HasJamoTo-more number seconds so_far n from below = elim (cases_lt n number) [
  | inl earlier ↦ Contains-append_left seconds (number ∷ []) n (so_far n from earlier)
  | inr last ↦ (let same : number ≡ n = omega arith in subst (Contains (seconds ++ number ∷ [])) same (Contains-push seconds number))
]

-- so are all of them, and the seconds of the first pairs
pub record HasSecondsTo (pairs : List Pair) (place : ℕ) (seconds : List ℕ) : Type 0 where
  pub jamo : HasJamoTo 0x1200 seconds
  pub listed : (n : ℕ) → list_any (λ p. p.0 == n) (take place pairs) ≡ true → Contains seconds n

pub HasSecondsTo-none : (pairs : List Pair) (seconds : List ℕ) → HasJamoTo 0x1200 seconds → HasSecondsTo pairs 0 seconds
HasSecondsTo-none pairs seconds jamo = record { jamo = jamo; listed = λ n any. absurd (true≢false (sym any)) }

pub HasSecondsTo-more : (pairs : List Pair) (place : ℕ) (seconds : List ℕ) (second : ℕ) → place < length pairs → second ≡ (get_or pairs place (0, 0, 0)).0 → HasSecondsTo pairs place seconds
    → HasSecondsTo pairs (place + 1) (seconds ++ second ∷ [])
HasSecondsTo-more pairs place seconds second within is so_far = record {
  jamo = λ n from below. Contains-append_left seconds (second ∷ []) n (so_far.jamo n from below);
  listed = λ n any. elim (or_cases (list_any (λ p. p.0 == n) (take place pairs)) ((get_or pairs place (0, 0, 0)).0 == n) (sym (list_any_more (λ p. p.0 == n) pairs place (0, 0, 0) within) ∙ any)) [
    | inl earlier ↦ Contains-append_left seconds (second ∷ []) n (so_far.listed n earlier)
    | inr last ↦ subst (Contains (seconds ++ second ∷ [])) (is ∙ eqb-true _ _ last) (Contains-push seconds second)
  ];
}

-- so all that may be second are
pub HasSeconds-all : (pairs : List Pair) (seconds : List ℕ) → HasSecondsTo pairs (length pairs) seconds → (n : ℕ) → may_be_second pairs n ≡ true → Contains seconds n
unfolding may_be_second is_vowel_or_trailing_jamo is_listed_second
HasSeconds-all pairs seconds all n may = elim (or_cases (is_vowel_or_trailing_jamo n) (is_listed_second pairs n) may) [
  | inl jamo ↦ all.jamo n (grind (arith, nat_tests)) (grind (arith, nat_tests))
  | inr listed ↦ all.listed n (rw (take-length pairs) listed)
]
