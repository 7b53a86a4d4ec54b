-- Look-ups in a list of pairs.
use Rattle.std.proofs.Common.{ap, inl, inr, ◌≡◌, ◌≢◌, ℕ, ◌<◌, Bool, true, false, List, [], ◌∷◌, length, get_or, Some}
use Rattle.std.proofs.Common.{None, All, arith, subst, ◌∙◌, ◌↔◌, IsTrue}
use Rattle.std.proofs.lemmas.Bool.{cases_Bool}
use Rattle.std.proofs.lemmas.Bool.Decides.{nat_tests}
use Rattle.std.proofs.lemmas.List.Elements.{All-tail}
use Rattle.std.proofs.lemmas.List.Folds.{find_at}
use Rattle.std.proofs.lemmas.List.Sums.{position_or_len_is}
use Rattle.std.proofs.lemmas.Option.{get_or_from_slice_get, slice_get_within, same_Some, slice_get-get_or, slice_get_past}
use Rattle.std.specs.List.{find, position_or_len, slice_get}
use Rattle.std.specs.Option.{option_map}
use Rattle.std.specs.List.{AllAdjacentBelow, IsAllAdjacentAnswer}
use Rattle.normalizer_tables.specs.Pairs.{Pair, pair_at, is_before, is_of, listed_result, AreRising}
use Rattle.normalizer_tables.proofs.lists.RisingLists.{all_before, all_before-decides}

-- what the test says, and what it denies
pub is_of-true : (p : Pair) (first second : ℕ) → is_of p first second ≡ true → (p.0 ≡ second) × (p.1 ≡ first)
unfolding is_of
is_of-true p first second h = grind (arith, nat_tests)

pub is_of_from : (p : Pair) (first second : ℕ) → p.0 ≡ second → p.1 ≡ first → is_of p first second ≡ true
unfolding is_of
is_of_from p first second h k = grind (arith, nat_tests)

pub is_of_other : (p : Pair) (first second : ℕ) → p.0 ≢ second → is_of p first second ≡ false
unfolding is_of
is_of_other p first second h = grind (arith, nat_tests)

pub is_before_trans : (p q : Pair) (second first : ℕ) → is_before p q.0 q.1 ≡ true → is_before q second first ≡ true → is_before p second first ≡ true
unfolding is_before
is_before_trans p q second first h k = grind (arith, nat_tests)

-- the first that passes is found, and nothing if none does
pub find_first : {X : Type 0} (p : X → Bool) (xs : List X) (k : ℕ) (d : X) → k < length xs → p (get_or xs k d) ≡ true → ((j : ℕ) → j < k → p (get_or xs j d) ≡ false) → find p xs ≡ Some (get_or xs k d)
find_first p xs k d within here before = find_at p xs ∙ ap (slice_get xs) (position_or_len_is p xs k d (omega arith) before (λ _. here)) ∙ slice_get-get_or xs k d within

pub find_none : {X : Type 0} (p : X → Bool) (xs : List X) (d : X) → ((k : ℕ) → k < length xs → p (get_or xs k d) ≡ false) → find p xs ≡ None
find_none p xs d missed =
    find_at p xs ∙ slice_get_past xs (position_or_len p xs) (omega (arith, position_or_len_is p xs (length xs) d (omega arith) missed (λ below. absurd (omega arith))))

-- if no pair is of these two, nothing is listed
pub listed_result-none : (pairs : List Pair) (first second : ℕ) → ((k : ℕ) → k < length pairs → is_of (pair_at pairs k) first second ≡ false) → listed_result pairs first second ≡ None
unfolding listed_result pair_at
listed_result-none pairs first second missed = ap (option_map (λ p. p.2)) (find_none (λ p. is_of p first second) pairs (0, 0, 0) missed)

-- the first that is theirs decides
pub listed_result-first : (pairs : List Pair) (first second k : ℕ) (p : Pair) → slice_get pairs k ≡ Some p → is_of p first second ≡ true
    → ((j : ℕ) → j < k → is_of (pair_at pairs j) first second ≡ false) → listed_result pairs first second ≡ Some p.2
unfolding listed_result pair_at
listed_result-first pairs first second k p got theirs before =
    let here : get_or pairs k (0, 0, 0) ≡ p = get_or_from_slice_get pairs k p (0, 0, 0) got in
    ap (option_map (λ p. p.2)) (find_first (λ p. is_of p first second) pairs k (0, 0, 0) (slice_get_within pairs k p got) (ap (λ q. is_of q first second) here ∙ theirs) before ∙ ap Some here)

-- the test of each triple and the next decides whether triples rise
pub AreRising_from_adjacent : (pairs : List Pair) → AllAdjacentBelow (λ p q. true ≡ is_before p q.0 q.1) pairs (length pairs) → AreRising pairs
AreRising_from_adjacent pairs = all_before (λ _. Unit) (λ p q. is_before p q.0 q.1) (λ p q s _. is_before_trans p q s.0 s.1) pairs (λ k d within. tt)

pub AreRising-decides : (pairs : List Pair) (r : Bool) → IsAllAdjacentAnswer (λ p q b. b ≡ is_before p q.0 q.1) pairs r → IsTrue r ↔ AreRising pairs
AreRising-decides pairs = all_before-decides (λ _. Unit) (λ p q. is_before p q.0 q.1) (λ p q s _. is_before_trans p q s.0 s.1) pairs (λ k d within. tt) (0, 0, 0)

-- what is true of each triple is true of the one that a look-up finds
pub All-listed_result : (P : Pair → Type 0) (pairs : List Pair) (first second result : ℕ) → All P pairs → listed_result pairs first second ≡ Some result → P (second, first, result)
unfolding listed_result
All-listed_result P [] first second result all found = cc
All-listed_result P (p ∷ pairs) first second result all found = elim (cases_Bool (is_of p first second)) [
  | inl theirs ↦
      let same = is_of-true p first second theirs in
      let value : p.2 ≡ result = same_Some _ _ (rw theirs at found) in
      subst P (λ i. (same.0 i, same.1 i, value i)) (all 0 p (omega arith))
  | inr other ↦ All-listed_result P pairs first second result (All-tail P p pairs all) (rw other at found)
]
