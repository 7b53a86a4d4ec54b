-- Look-ups in a list that rises.
use Rattle.std.proofs.Common.{◌≡◌, ℕ, zero, suc, ◌<◌, ◌⊎◌, ◌==◌, false, List, [], ◌∷◌, length, get_or, refl, Some, None, AllPairs, find, inl, inr}
use Rattle.std.proofs.Common.{sym, ap, ◌∙◌, arith}
use Rattle.normalizer_records.specs.inner.Lookup.{Stands}
use Rattle.std.proofs.lemmas.Bool.{cases_eq}
use Rattle.std.proofs.lemmas.Bool.Decides.{nat_tests}

module _ {X : Type 0} (key : X → ℕ) where
  -- the element of this key is found
  find-at : (xs : List X) → AllPairs (λ r s. key r < key s) xs → (c i : ℕ) (d : X) → i < length xs → key (get_or xs i d) ≡ c → find (λ y. key y == c) xs ≡ Some (get_or xs i d)
  find-at [] rising c i d inside same = absurd (omega arith)
  find-at (x ∷ xs) rising c zero d inside same = grind (arith, nat_tests)
  find-at (x ∷ xs) rising c (suc i) d inside same = grind (
    arith,
    nat_tests,
    rising 0 (suc i) d (omega arith) inside,
    find-at xs (λ k j e less within. rising (suc k) (suc j) e (omega arith) (omega arith)) c i d (omega arith) same,
  )

  pub find-found : (xs : List X) → AllPairs (λ r s. key r < key s) xs → (c i : ℕ) (x : X) → Stands key xs c i → x ≡ get_or xs i x → find (λ y. key y == c) xs ≡ Some x
  find-found xs rising c i x at is = find-at xs rising c i x at.within (at.there x) ∙ ap (λ y. Some y) (sym is)

  -- the key is somewhere, or is not found
  pub stands_or_none : (xs : List X) (c : ℕ) → ((place : ℕ) × Stands key xs c place) ⊎ (find (λ y. key y == c) xs ≡ None)
  stands_or_none [] c = inr refl
  stands_or_none (x ∷ xs) c = elim (cases_eq (key x) c) [
    | inl same ↦ inl (0, record { within = omega arith; there = λ d. same })
    | inr other ↦
        let off : (key x == c) ≡ false = grind (arith, nat_tests) in
        elim (stands_or_none xs c) [
          | inl further ↦ let inside = further.1.within in inl (suc further.0, record { within = omega arith; there = further.1.there })
          | inr none ↦ inr (rw off none)
        ]
  ]
