-- Reading items one after another, as a loop does.
use Rattle.std.proofs.Common.{◌≡◌, ℕ, suc, ◌-◌, ◌+◌, ◌≤◌, ◌<◌, List, [], ◌∷◌, ◌++◌, Ok, Err, refl, sym, ap}
use Rattle.std.proofs.Common.{◌∙◌, append_assoc, arith}
use Rattle.std.proofs.lemmas.List.{append-nil}
use Rattle.normalizer_prepared.specs.declared.fault.ReadError.{ReadError}
use Rattle.normalizer_prepared.specs.declared.fault.ReadError.TheVariants as errors
use Rattle.normalizer_prepared.specs.Reading.{◌>>=◌, Fails, items_at, Read}

module _ {A : Type 0} where
  -- what was read before, and what is still read
  abbrev pub with_front : List A → Read (List A) → Read (List A)
  with_front front read = read >>= λ x. Ok (front ++ x.0, x.1)

  regroup : (front : List A) (n : A) (read : Read (List A))
      → with_front front (read >>= λ x. Ok (n ∷ x.0, x.1)) ≡ with_front (front ++ n ∷ []) read
  regroup front n (Ok x) = ap (λ (ns : List A). Ok (ns, x.1)) (simp append_assoc)
  regroup front n (Err f) = refl

  pub goes_on : (item_at : List ℕ → Read A) (front : List A) (count i : ℕ) (bytes : List ℕ) (n : A) (after : List ℕ)
      (total : Read (List A)) → i < count → item_at bytes ≡ Ok (n, after)
      → with_front front (items_at item_at (count - i) bytes) ≡ total
      → with_front (front ++ n ∷ []) (items_at item_at (count - (i + 1)) after) ≡ total
  unfolding items_at
  goes_on item_at front count i bytes n after total lt h so_far =
      let k : count - i ≡ suc (count - (i + 1)) = omega arith in
      let one : with_front front (items_at item_at (count - i) bytes)
      ≡ with_front (front ++ n ∷ []) (items_at item_at (count - (i + 1)) after) =
      rw (k, h) (regroup front n (items_at item_at (count - (i + 1)) after)) in
      sym one ∙ so_far

  pub ends : (item_at : List ℕ → Read A) (e : ReadError) (front : List A) (count i : ℕ) (bytes : List ℕ)
      (total : Read (List A)) → i < count → Fails e (item_at bytes)
      → with_front front (items_at item_at (count - i) bytes) ≡ total → Fails e total
  unfolding items_at
  ends item_at errors.Memory front count i bytes total lt h so_far = tt
  ends item_at (errors.Wrong f left) front count i bytes total lt h so_far =
      let k : count - i ≡ suc (count - (i + 1)) = omega arith in
      let one : with_front front (items_at item_at (count - i) bytes) ≡ Err (f, left) = rw (k, h) refl in
      sym so_far ∙ one

  pub is_done : (item_at : List ℕ → Read A) (front : List A) (count i : ℕ) (bytes : List ℕ) (total : Read (List A))
      → count ≤ i → with_front front (items_at item_at (count - i) bytes) ≡ total → total ≡ Ok (front, bytes)
  unfolding items_at
  is_done item_at front count i bytes total le so_far =
      let k : count - i ≡ 0 = omega arith in
      let one : with_front front (items_at item_at (count - i) bytes) ≡ Ok (front, bytes) =
      rw k (ap (λ (ns : List A). Ok (ns, bytes)) (append-nil front)) in
      sym so_far ∙ one
