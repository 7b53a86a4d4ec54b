-- What a watch and a cursor know, of more bytes.
use Rattle.std.proofs.Common.{◌≡◌, ℕ, ◌+◌, ◌-◌, ◌^◌, ◌<◌, ◌≤◌, Bool, true, false, cond, min, List, [], ◌∷◌, ◌++◌, length, refl, reverse, sym, ap, ◌∙◌, arith}
use Rattle.std.specs.Prelude.{count_by, take_while, not, ◌==◌}
use Rattle.std.proofs.lemmas.List.{length-reverse, reverse-append}
use Rattle.std.proofs.lemmas.List.Sums.{sum_by-append, take_while-cons}
use Rattle.std.proofs.lemmas.List.Elements.{All-nil, All-same}
use Rattle.icu_normalizer.proofs.StepLemmas.{IsRight}
use Rattle.normalizer_streams.specs.declared.ill_formed.ErrorMode.{ErrorMode}
use Rattle.normalizer_streams.specs.declared.ill_formed.ErrorMode.TheVariants.{Fatal, Replacement}
use Rattle.normalizer_streams.specs.declared.position.Cursor.{Cursor}
use Rattle.normalizer_streams.specs.declared.watch.Watch.{Watch}
use Rattle.normalizer_streams.specs.IllFormed.{IsWellFormedBy}
use Rattle.normalizer_streams.specs.Positions.{counted, line_after, bytes_before}
use Rattle.normalizer_streams.specs.inner.Watches.{IsCursorAfter, Joins, Watches}
use Rattle.normalizer_streams.proofs.PassLemmas.{steps_of-nil, well_formed-joined}
use Rattle.normalizer_streams.proofs.ErrorLemmas.{count_errors}

-- ---- many bytes more

while-all : (p : ℕ → Bool) (xs ys : List ℕ) → length (take_while p xs) ≡ length xs → length (take_while p (xs ++ ys)) ≡ length xs + length (take_while p ys)
while-all p [] ys all = omega arith
while-all p (x ∷ xs) ys all = by (p x) refl (λ same. while-all p xs ys same)
  where
    by : (b : Bool) → p x ≡ b → (length (take_while p xs) ≡ length xs → length (take_while p (xs ++ ys)) ≡ length xs + length (take_while p ys)) → length (take_while p (x ∷ (xs ++ ys))) ≡ length (x ∷ xs) + length (take_while p ys)
    by true is ih =
        let one : take_while p (x ∷ xs) ≡ x ∷ take_while p xs = take_while-cons p x xs ∙ ap (λ b. cond b (x ∷ take_while p xs) []) is in
        let both : take_while p (x ∷ (xs ++ ys)) ≡ x ∷ take_while p (xs ++ ys) = take_while-cons p x (xs ++ ys) ∙ ap (λ b. cond b (x ∷ take_while p (xs ++ ys)) []) is in
        omega (arith, ap length both, ih (omega (arith, all, ap length one)))
    by false is ih = absurd (omega (arith, all, ap length (take_while-cons p x xs ∙ ap (λ b. cond b (x ∷ take_while p xs) []) is)))

while-some : (p : ℕ → Bool) (xs ys : List ℕ) → length (take_while p xs) < length xs → length (take_while p (xs ++ ys)) ≡ length (take_while p xs)
while-some p [] ys some = absurd (omega arith)
while-some p (x ∷ xs) ys some = by (p x) refl (λ less. while-some p xs ys less)
  where
    by : (b : Bool) → p x ≡ b → (length (take_while p xs) < length xs → length (take_while p (xs ++ ys)) ≡ length (take_while p xs)) → length (take_while p (x ∷ (xs ++ ys))) ≡ length (take_while p (x ∷ xs))
    by true is ih =
        let one : take_while p (x ∷ xs) ≡ x ∷ take_while p xs = take_while-cons p x xs ∙ ap (λ b. cond b (x ∷ take_while p xs) []) is in
        let both : take_while p (x ∷ (xs ++ ys)) ≡ x ∷ take_while p (xs ++ ys) = take_while-cons p x (xs ++ ys) ∙ ap (λ b. cond b (x ∷ take_while p (xs ++ ys)) []) is in
        omega (arith, ap length both, ap length one, ih (omega (arith, some, ap length one)))
    by false is ih =
        ap length (take_while-cons p x (xs ++ ys) ∙ ap (λ b. cond b (x ∷ take_while p (xs ++ ys)) []) is)
        ∙ sym (ap length (take_while-cons p x xs ∙ ap (λ b. cond b (x ∷ take_while p xs) []) is))

module _ (front us : List ℕ) where
  joined_lines : line_after (front ++ us) ≡ line_after front + count_by (λ u. u == 0x0A) us
  joined_lines = omega (arith, sum_by-append (λ (u : ℕ). cond (u == 0x0A) 1 0) front us)

  joined_bytes-all : bytes_before us ≡ length us → bytes_before (front ++ us) ≡ bytes_before front + length us
  joined_bytes-all all =
      let p : ℕ → Bool = λ u. not (u == 0x0A) in
      let size = length-reverse us in
      let sum = while-all p (reverse us) (reverse front) (omega (arith, all, size)) in
      omega (arith, size, sum, ap (λ x. length (take_while p x)) (reverse-append front us))

  joined_bytes-some : bytes_before us < length us → bytes_before (front ++ us) ≡ bytes_before us
  joined_bytes-some some =
      let p : ℕ → Bool = λ u. not (u == 0x0A) in
      ap (λ x. length (take_while p x)) (reverse-append front us) ∙ while-some p (reverse us) (reverse front) (omega (arith, some, length-reverse us))

  pub cursor-in_line : (c c' : Cursor) → IsCursorAfter front c → bytes_before us ≡ length us → c'.line ≡ min (c.line + count_by (λ u. u == 0x0A) us) (2 ^ 64 - 1)
      → c'.bytes ≡ min (c.bytes + bytes_before us) (2 ^ 64 - 1) → IsCursorAfter (front ++ us) c'
  cursor-in_line c c' at all line bytes = record {
    line_is = omega (arith, line, at.line_is, joined_lines);
    bytes_is = omega (arith, bytes, at.bytes_is, joined_bytes-all all, all);
  }

  pub cursor-in_other : (c c' : Cursor) → IsCursorAfter front c → bytes_before us < length us → bytes_before us ≤ 2 ^ 64 - 1 → c'.line ≡ min (c.line + count_by (λ u. u == 0x0A) us) (2 ^ 64 - 1)
      → c'.bytes ≡ bytes_before us → IsCursorAfter (front ++ us) c'
  cursor-in_other c c' at some fits line bytes = record {
    line_is = omega (arith, line, at.line_is, joined_lines);
    bytes_is = omega (arith, bytes, fits, joined_bytes-some some);
  }

-- ---- a watch

pub Watches-none : (mode : ErrorMode) (cursor : Cursor) → IsCursorAfter [] cursor → Watches mode (record { mode = mode; found = 0; cursor = cursor }) []
Watches-none Replacement cursor c = (refl, sym (ap (λ ss. counted (count_errors ss)) (steps_of-nil)))
Watches-none Fatal cursor c = (refl, (refl, All-same IsRight _ _ (steps_of-nil) (All-nil IsRight), c))

-- a well-formed piece is passed
pub Watches-passed : (passed piece : List ℕ) (w w' : Watch) → Joins passed piece → Watches Fatal w passed → IsWellFormedBy piece
    → w'.mode ≡ w.mode → w'.found ≡ w.found → IsCursorAfter (passed ++ piece) w'.cursor → Watches Fatal w' (passed ++ piece)
Watches-passed passed piece w w' j was right mode found cursor =
    (mode ∙ was.0, (found ∙ was.1.0, well_formed-joined passed piece j was.1.1 right, cursor))
