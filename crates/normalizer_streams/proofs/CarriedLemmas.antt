-- Bytes that are read behind bytes that are carried.
use Rattle.std.proofs.Common.{◌≡◌, ℕ, ◌+◌, ◌≤◌, List, ◌++◌, Option, length, take, drop, nat_lt, sym, ap, ◌∙◌, arith, length-take, length-drop}
use Rattle.std.proofs.lemmas.Bool.{ltb-false, ltb-true}
use Rattle.std.proofs.lemmas.List.{drop-take, take-append-drop, take-take}
use Rattle.std.specs.Io.KnownBytes.{Consumes, IsAtEnd}
use Rattle.normalizer_streams.specs.inner.Moves.{Carries}

pub take-sum : (n m : ℕ) (xs : List ℕ) → take (n + m) xs ≡ take n xs ++ take m (drop n xs)
take-sum n m xs =
    sym (take-append-drop n (take (n + m) xs)) ∙ ap (λ x. x ++ drop n (take (n + m) xs)) (take-take n (n + m) xs (omega arith))
    ∙ ap (λ x. take n xs ++ x) (drop-take n m xs)

-- the carried bytes grow by what was read
pub Carries-behind : (l m : Option (List ℕ)) (carried buffer filled : List ℕ) (len count : ℕ) → filled ≡ buffer → take len buffer ≡ carried → len + count ≤ length buffer
    → Consumes l m (take count (drop len buffer)) → (count ≡ 0 → IsAtEnd m) → Carries l m carried (take (len + count) filled) (nat_lt 0 count)
Carries-behind l m carried buffer filled len count whole same within consumed end = record {
  more = take count (drop len buffer);
  consumed = consumed;
  appended = ap (take (len + count)) whole ∙ take-sum len count buffer ∙ ap (λ x. x ++ take count (drop len buffer)) same;
  some = λ yes. omega (arith, ltb-true 0 count yes, length-take count (drop len buffer), length-drop len buffer, within);
  end = λ no. end (omega (arith, ltb-false 0 count no));
}
