-- Elements that follow one another.
use Rattle.std.proofs.Common.{ℕ, zero, suc, ◌+◌, ◌≤◌, ◌<◌, List, [], ◌∷◌, ◌++◌, get_or, arith}
use Rattle.std.specs.Prelude.{All, AllPairs}
use Rattle.std.proofs.lemmas.List.Kept.{AllPairs-cons}

module _ {X : Type 0} (first end : X → ℕ) where
  -- the elements are of ranges that follow one another, from n on, up to m
  abbrev pub IsWithin : ℕ → ℕ → List X → Type 0
  IsWithin n m [] = n ≤ m
  IsWithin n m (x ∷ xs) = (n ≤ first x) × (first x ≤ end x) × IsWithin (end x) m xs

  pub from_less : (n o m : ℕ) (xs : List X) → IsWithin o m xs → n ≤ o → IsWithin n m xs
  from_less n o m [] h le = omega arith
  from_less n o m (x ∷ xs) h le = (omega (arith, h.0), h.1, h.2)

  pub joined : (n m o : ℕ) (xs ys : List X) → IsWithin n m xs → IsWithin m o ys → IsWithin n o (xs ++ ys)
  joined n m o [] ys h more = from_less n m o ys more h
  joined n m o (x ∷ xs) ys h more = (h.0, h.1, joined (end x) m o xs ys h.2 more)

module _ {X : Type 0} (key : X → ℕ) where
  -- the keys rise, from n on, and are below m
  abbrev pub AreWithin : ℕ → ℕ → List X → Type 0
  AreWithin = IsWithin key (λ x. key x + 1)

  pub all_from : (n m : ℕ) (xs : List X) → AreWithin n m xs → All (λ y. n ≤ key y) xs
  all_from n m [] h k d lt = absurd (omega arith)
  all_from n m (x ∷ xs) h zero d lt = h.0
  all_from n m (x ∷ xs) h (suc k) d lt =
      let later : key x + 1 ≤ key (get_or xs k d) = all_from (key x + 1) m xs h.2 k d (omega arith) in
      let first : n ≤ key x = h.0 in
      omega arith

  pub rising : (n m : ℕ) (xs : List X) → AreWithin n m xs → AllPairs (λ x y. key x < key y) xs
  rising n m [] h = λ i j d lt within. absurd (omega arith)
  rising n m (x ∷ xs) h =
      AllPairs-cons (λ x y. key x < key y) x xs
      (λ k d lt. let later : key x + 1 ≤ key (get_or xs k d) = all_from (key x + 1) m xs h.2 k d lt in omega arith)
      (rising (key x + 1) m xs h.2)
