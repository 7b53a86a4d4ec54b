-- What a buffer has after units were taken.
use Rattle.std.proofs.Common.{◌≡◌, ℕ, ◌-◌, ◌^◌, List, [], ◌∷◌, ◌++◌, length, min, ap, refl, append_assoc, ◌∙◌, arith}
use Rattle.std.proofs.Math.Seq.{take-append_seam, drop-append_seam}
use Rattle.std.proofs.lemmas.List.{length-append}
use Rattle.icu_normalizer_c.specs.declared.sink.Buffer.{Buffer}
use Rattle.icu_normalizer_c.specs.Taken.{taken_by, count_of}
use Rattle.icu_normalizer_c.specs.Overwriting.{overwritten}

first : List ℕ → ℕ
first [] = 0
first (x ∷ xs) = x

rest : List ℕ → List ℕ
rest [] = []
rest (x ∷ xs) = xs

module _ (old new : Buffer ℕ) (before y : List ℕ) (took : taken_by new ≡ taken_by old ++ y)
    (had : old.history.units ≡ before) (room : length old.units.now ≡ length before) where
  -- it is the same buffer
  pub taken-reference : new.units.ghost_name ≡ old.units.ghost_name
  unfolding first
  taken-reference = ap first took

  taken-room : length new.units.now ≡ length before
  unfolding first rest
  taken-room = ap (λ l. first (rest l)) took ∙ room

  taken-history : new.history.units ≡ before ++ y
  unfolding rest
  taken-history = ap (λ l. rest (rest l)) took ∙ ap (λ l. l ++ y) had

  -- its front was overwritten
  pub taken-overwrites : new.units.now ≡ overwritten before y
  taken-overwrites =
      let has = new.has in
      let front = take-append_seam before y in
      let back = drop-append_seam before y in
      rw (taken-room, taken-history, front, back) at has

  -- the count is that of what was taken
  pub taken-count : count_of new ≡ min (length y) (2 ^ 64 - 1)
  taken-count = let e = length-append before y in rw (taken-room, taken-history, e) (omega arith)

-- one more unit was taken
pub taken-more : (first old new : Buffer ℕ) (front : List ℕ) (c : ℕ) → taken_by old ≡ taken_by first ++ front
    → new.units.ghost_name ≡ old.units.ghost_name → length new.units.now ≡ length old.units.now
    → new.history.units ≡ old.history.units ++ c ∷ [] → taken_by new ≡ taken_by first ++ (front ++ c ∷ [])
taken-more first old new front c before reference room history =
    let one : taken_by new ≡ taken_by old ++ c ∷ [] = rw (reference, room, history) refl in
    one ∙ ap (λ l. l ++ c ∷ []) before ∙ append_assoc (taken_by first) front (c ∷ [])
