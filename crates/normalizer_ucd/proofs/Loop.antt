-- The parts of a text in a loop.
use Rattle.std.proofs.Common.{◌≡◌, ℕ, ◌+◌, ◌<◌, List, [], ◌∷◌, length, get_or, drop, map, suc, Bor, ap, arith}
use Rattle.std.proofs.Math.Seq.{drop-cons}

drop_step : {X : Type 0} (xs : List X) (i : ℕ) (d : X) → i < length xs → drop i xs ≡ get_or xs i d ∷ drop (i + 1) xs
drop_step xs i d lt = let e : i + 1 ≡ suc i = omega arith in rw e (drop-cons xs i d lt)

-- the texts of parts, and the part at a place
abbrev pub texts : List (Bor (List ℕ)) → List (List ℕ)
texts parts = map (λ part. part.now) parts

abbrev pub part_at : List (Bor (List ℕ)) → ℕ → List ℕ
part_at parts i = (get_or parts i (record { ref_ptr = (0, 0); now = [] })).now

pub one_more : (parts : List (Bor (List ℕ))) (i : ℕ) → i < length parts →
    texts (drop i parts) ≡ part_at parts i ∷ texts (drop (i + 1) parts)
one_more parts i lt = ap texts (drop_step parts i (record { ref_ptr = (0, 0); now = [] }) lt)
