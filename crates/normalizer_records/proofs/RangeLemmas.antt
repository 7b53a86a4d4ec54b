-- What each number of a range gives, one number after another.
use Rattle.std.proofs.Common.{◌≡◌, ℕ, ◌+◌, ◌-◌, ◌≤◌, ◌<◌, List, ◌++◌, suc, sym, ◌∙◌, append_assoc, arith}
use Rattle.std.specs.List.{flat_map, range_with_len}
use Rattle.std.proofs.lemmas.List.{append-nil}

-- the numbers from one on, before another
abbrev pub numbers : ℕ → ℕ → List ℕ
numbers first end = range_with_len first (end - first)

pub one_more : {B : Type 0} (f : ℕ → List B) (front total : List B) (i end : ℕ) → i < end →
    front ++ flat_map f (numbers i end) ≡ total → (front ++ f i) ++ flat_map f (numbers (i + 1) end) ≡ total
one_more f front total i end lt so_far =
    let count : end - i ≡ suc (end - (i + 1)) = omega (arith, lt) in
    let first : front ++ flat_map f (numbers i end) ≡ (front ++ f i) ++ flat_map f (numbers (i + 1) end)
    = rw count (sym (append_assoc front (f i) (flat_map f (numbers (i + 1) end)))) in
    sym first ∙ so_far

pub no_more : {B : Type 0} (f : ℕ → List B) (front total : List B) (i end : ℕ) → end ≤ i →
    front ++ flat_map f (numbers i end) ≡ total → front ≡ total
no_more f front total i end le so_far =
    let count : end - i ≡ 0 = omega (arith, le) in
    let first : front ++ flat_map f (numbers i end) ≡ front = rw count (append-nil front) in
    sym first ∙ so_far
