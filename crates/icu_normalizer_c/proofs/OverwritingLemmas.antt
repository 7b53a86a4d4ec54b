-- Overwriting in steps.
use Rattle.std.proofs.Common.{◌≡◌, ℕ, ◌≤◌, ◌-◌, ◌+◌, List, [], ◌∷◌, ◌++◌, length, take, drop, min, suc, zero, refl, ap}
use Rattle.std.proofs.Common.{arith}
use Rattle.std.proofs.Math.Seq.{take-length, take-nil, drop-nil}
use Rattle.std.proofs.lemmas.List.{length-append, length-drop, length-take, take-append-le, drop-append-le}
use Rattle.icu_normalizer_c.specs.Overwriting.{overwritten}

module _ {X : Type 0} where
  -- units after others overwrite what comes after these, if they were counted up to a greatest number
  pub overwritten-append : (buffer units more : List X) (count greatest : ℕ) → length buffer ≤ greatest
      → count ≡ min (length units) greatest
      → take count (overwritten buffer units) ++ overwritten (drop count (overwritten buffer units)) more
      ≡ overwritten buffer (units ++ more)
  overwritten-append [] units more count greatest room is = rw (take-nil {A = X} count, drop-nil {A = X} count) refl
  overwritten-append (x ∷ xs) [] more count greatest room is =
      let none : count ≡ 0 = omega (arith, is) in
      let whole : overwritten (x ∷ xs) [] ≡ x ∷ xs = take-length (x ∷ xs) in
      rw none (ap (λ l. overwritten l more) whole)
  overwritten-append (x ∷ xs) (u ∷ us) more zero greatest room is = absurd (omega (arith, room, is))
  overwritten-append (x ∷ xs) (u ∷ us) more (suc count) zero room is = absurd (omega (arith, room))
  overwritten-append (x ∷ xs) (u ∷ us) more (suc count) (suc greatest) room is =
      ap (λ l. u ∷ l) (overwritten-append xs us more count greatest (omega (arith, room)) (omega (arith, is)))

  module _ (u v h k us : List X) (count greatest : ℕ) (room : length u ≤ greatest) (had : length u ≤ length h)
      (counts : count ≡ min (length h - length u) greatest) (same : length v ≡ length u) (and : k ≡ h ++ us) where
    -- the history of a buffer has what the buffer had at first
    pub still_had : length v ≤ length k
    still_had = rw (same, and) (let e = length-append h us in omega (arith, had, e))

    -- and the buffer still has what its history says
    pub still_has : u ≡ overwritten (take (length u) h) (drop (length u) h)
        → v ≡ take count u ++ overwritten (drop count u) us
        → v ≡ overwritten (take (length v) k) (drop (length v) k)
    still_has has wrote =
        let b = take (length u) h in let t = drop (length u) h in
        let b_len : length b ≤ greatest = (let e = length-take (length u) h in omega (arith, e, room)) in
        let t_len : count ≡ min (length t) greatest = (let e = length-drop (length u) h in rw e counts) in
        let whole : take count (overwritten b t) ++ overwritten (drop count (overwritten b t)) us
        ≡ overwritten b (t ++ us) =
        overwritten-append b t us count greatest b_len t_len in
        let front : take (length u) (h ++ us) ≡ b = take-append-le (length u) h us had in
        let back : drop (length u) (h ++ us) ≡ t ++ us = drop-append-le (length u) h us had in
        rw (same, and, front, back, ← whole, ← has) wrote

    -- and the count is right
    pub still_counts : (sum : ℕ) → sum ≡ min (count + length us) greatest → sum ≡ min (length k - length v) greatest
    still_counts sum is = let e = length-append h us in rw (same, and) (omega (arith, e, is, counts, had))
