-- Lists in which each element is before the next, and so before all later ones.
use Rattle.std.proofs.Common.{◌≡◌, ℕ, ◌+◌, ◌<◌, Bool, true, false, List, AllPairs, All, length, get_or, IsTrue, ◌↔◌, refl, inl, inr, arith, add-one, subst, sym, ◌∙◌, zero, suc}
use Rattle.std.proofs.Common.{nat_lt, [], ◌∷◌}
use Rattle.std.proofs.lemmas.Bool.{cases_lt}
use Rattle.std.proofs.lemmas.Bool.Decides.{nat_tests}
use Rattle.std.proofs.lemmas.List.Sorted.{IsNonDecreasingBy-from_all_adjacent}
use Rattle.std.specs.List.{AllAdjacentBelow, IsAllAdjacentAnswer}

module _ {X : Type 0} (P : X → Type 0) (before : X → X → Bool) (trans : (x y z : X) → P y → before x y ≡ true → before y z ≡ true → before x z ≡ true) (xs : List X) (all : All P xs) where
  pub all_before : AllAdjacentBelow (λ x y. true ≡ before x y) xs (length xs) → AllPairs (λ x y. before x y ≡ true) xs
  all_before adjacent i zero d below within = absurd (omega arith)
  all_before adjacent i (suc j) d below within =
      let last = subst (λ m. before (get_or xs j d) (get_or xs m d) ≡ true) (add-one j) (sym (adjacent j d (omega arith))) in
      elim (cases_lt i j) [
        | inl earlier ↦ trans _ _ _ (all j d (omega arith)) (all_before adjacent i j d earlier (omega arith)) last
        | inr same ↦ (let here : j ≡ i = omega arith in subst (λ m. before (get_or xs m d) (get_or xs (suc j) d) ≡ true) here last)
      ]

  -- the test of each and the next decides whether all are
  pub all_before-decides : (any : X) (r : Bool) → IsAllAdjacentAnswer (λ x y b. b ≡ before x y) xs r → IsTrue r ↔ AllPairs (λ x y. before x y ≡ true) xs
  all_before-decides any true h = (λ _. all_before h, λ _. refl)
  all_before-decides any false h = (λ no. cc, λ rising. h.2 any ∙ rising h.0 (h.0 + 1) any (omega arith) h.1)
