-- The rule of UTF-8 is a rule of decoding.
use Rattle.std.proofs.Common.{◌≡◌, ℕ, zero, suc, ◌<◌, ◌≤◌, ◌⊎◌, inl, inr, true, false, List, [], ◌∷◌, ◌++◌, length, take, get_or, Option, Some, None, arith, refl, ap, sym, subst, ◌∙◌, ⊎_elim}
use Rattle.std.specs.Char.{IsScalar}
use Rattle.std.proofs.lemmas.List.{take-take, take-append-le}
use Rattle.std.proofs.lemmas.Bool.{false≢true, true≢false, cases_eq, and_from, le-leb}
use Rattle.normalizer_text.specs.declared.decoding_step.Step.{Step}
use Rattle.normalizer_text.specs.DecodingSteps.{read, replacement_step}
use Rattle.normalizer_text.specs.Utf8.{ByteRange, Row, row_of, continuation, allows, matched_count, scalar_value, first_by_row, first_of_utf8}
use Rattle.normalizer_text.specs.Encodings.{Encoding}
use Rattle.normalizer_text.proofs.rules.Decoding.{IsDecoding, HasTrails}
use Rattle.normalizer_text.proofs.sequences.MatchLemmas.{allows-true, allows-below_matched, matched-le, matched-take, matched-append}
use Rattle.normalizer_text.proofs.sequences.RowLemmas.{Each, row_of-IsRow, IsSequence-row, by_row-short, by_row-whole}
use Rattle.normalizer_text.proofs.sequences.ScalarLemmas.{scalar_value-IsScalar}

-- the bytes after the first one are matched or not
rows : (r : Row) (bs : List ℕ) → (matched_count r.trail bs ≡ length r.trail) ⊎ (matched_count r.trail bs < length r.trail)
rows r bs = ⊎_elim (λ e. inl e) (λ ne. inr (let k = matched-le r.trail bs in omega arith)) (cases_eq (matched_count r.trail bs) (length r.trail))

-- what is shown of a step by cases
pub by_cases : (P : Step → Type 0) (b : ℕ) (bs : List ℕ)
    → (row_of b ≡ None → P (replacement_step 1))
    → ((r : Row) → row_of b ≡ Some r → matched_count r.trail bs ≡ length r.trail → P (read (scalar_value (b ∷ take (length r.trail) bs)) (suc (length r.trail))))
    → ((r : Row) → row_of b ≡ Some r → matched_count r.trail bs < length r.trail → P (replacement_step (suc (matched_count r.trail bs))))
    → P (first_of_utf8 (b ∷ bs))
by_cases P b bs none whole short = by (row_of b) refl
  where
    by : (o : Option Row) → row_of b ≡ o → P (first_by_row o b bs)
    by None e = none e
    by (Some r) e = ⊎_elim
        (λ m. subst P (sym (by_row-whole r b bs m)) (whole r e m))
        (λ m. subst P (sym (by_row-short r b bs m)) (short r e m))
        (rows r bs)

some_utf8 : (us : List ℕ) → 0 < length us → 0 < (first_of_utf8 us).width
some_utf8 [] h = absurd (omega arith)
some_utf8 (b ∷ bs) h = by_cases (λ s. 0 < s.width) b bs (λ _. omega arith) (λ r e m. omega arith) (λ r e m. omega arith)

fits_utf8 : (us : List ℕ) → 0 < length us → (first_of_utf8 us).width ≤ length us
fits_utf8 [] h = absurd (omega arith)
fits_utf8 (b ∷ bs) h = by_cases (λ s. s.width ≤ length (b ∷ bs)) b bs (λ _. omega arith) (λ r e m. let k = matched-le r.trail bs in omega arith) (λ r e m. let k = matched-le r.trail bs in omega arith)

scalar_utf8 : (us : List ℕ) → IsScalar (first_of_utf8 us).character
scalar_utf8 [] = refl
scalar_utf8 (b ∷ bs) = by_cases (λ s. IsScalar s.character) b bs (λ _. refl) (λ r e m. scalar_value-IsScalar (b ∷ take (length r.trail) bs) (IsSequence-row b bs r e m)) (λ r e m. refl)

error_utf8 : (us : List ℕ) → (first_of_utf8 us).is_error ≡ true → (first_of_utf8 us).character ≡ 0xFFFD
error_utf8 [] e = refl
error_utf8 (b ∷ bs) e = by_cases (λ s. s.is_error ≡ true → s.character ≡ 0xFFFD) b bs (λ _ _. refl) (λ r f m e. absurd (false≢true e)) (λ r f m _. refl) e

short_utf8 : (us : List ℕ) → (first_of_utf8 us).width ≤ 4
short_utf8 [] = omega arith
short_utf8 (b ∷ bs) = by_cases (λ s. s.width ≤ 4) b bs (λ _. omega arith) (λ r e m. let k = (row_of-IsRow b r e).0.short in omega arith) (λ r e m. let k = (row_of-IsRow b r e).0.short in omega arith)

-- bytes after those of the step change nothing
cut-by_row : (o : Option Row) (b : ℕ) (bs : List ℕ) (n : ℕ) → (first_by_row o b bs).width ≤ suc n → first_by_row o b (take n bs) ≡ first_by_row o b bs
cut-by_row None b bs n h = refl
cut-by_row (Some r) b bs n h = ⊎_elim
    (λ m.
    let k : length r.trail ≤ n = (let w = ap (λ s. s.width) (by_row-whole r b bs m) in omega arith) in
    by_row-whole r b (take n bs) (matched-take r.trail bs n (omega arith) ∙ m)
    ∙ ap (λ x. record { character = scalar_value (b ∷ x); width = suc (length r.trail); is_error = false }) (take-take (length r.trail) n bs k)
    ∙ sym (by_row-whole r b bs m))
    (λ m.
    let k : matched_count r.trail bs ≤ n = (let w = ap (λ s. s.width) (by_row-short r b bs m) in omega arith) in
    let same = matched-take r.trail bs n k in
    by_row-short r b (take n bs) (omega arith) ∙ ap (λ x. replacement_step (suc x)) same ∙ sym (by_row-short r b bs m))
    (rows r bs)

cut_utf8 : (us : List ℕ) (n : ℕ) → 0 < length us → (first_of_utf8 us).width ≤ n → first_of_utf8 (take n us) ≡ first_of_utf8 us
cut_utf8 [] n h l = absurd (omega arith)
cut_utf8 (b ∷ bs) zero h l = absurd (omega (arith, some_utf8 (b ∷ bs) h))
cut_utf8 (b ∷ bs) (suc n) h l = cut-by_row (row_of b) b bs n l

extends-by_row : (o : Option Row) (b : ℕ) (bs more : List ℕ) → (first_by_row o b bs).is_error ≡ false → first_by_row o b (bs ++ more) ≡ first_by_row o b bs
extends-by_row None b bs more e = absurd (true≢false e)
extends-by_row (Some r) b bs more e = ⊎_elim
    (λ m.
    let all = matched-le r.trail bs in
    by_row-whole r b (bs ++ more) (matched-append r.trail bs more m)
    ∙ ap (λ x. record { character = scalar_value (b ∷ x); width = suc (length r.trail); is_error = false }) (take-append-le (length r.trail) bs more (omega arith))
    ∙ sym (by_row-whole r b bs m))
    (λ m. absurd (true≢false (ap (λ s. s.is_error) (sym (by_row-short r b bs m)) ∙ e)))
    (rows r bs)

extends_utf8 : (us more : List ℕ) → 0 < length us → (first_of_utf8 us).is_error ≡ false → first_of_utf8 (us ++ more) ≡ first_of_utf8 us
extends_utf8 [] more h e = absurd (omega arith)
extends_utf8 (b ∷ bs) more h e = extends-by_row (row_of b) b bs more e

-- the bytes after the first are continuation bytes
allows-continuation : (rs : List ByteRange) (j b : ℕ) → Each (λ t. (0x80 ≤ t.least) × (t.greatest ≤ 0xBF)) rs → allows (get_or rs j continuation) b ≡ true → allows continuation b ≡ true
allows-continuation [] j b all e = e
allows-continuation (r ∷ rs) zero b all e = let k = allows-true r b e in and_from _ _ (le-leb 0x80 b (omega arith)) (le-leb b 0xBF (omega arith))
allows-continuation (r ∷ rs) (suc j) b all e = allows-continuation rs j b all.1 e

inside_utf8 : (us : List ℕ) (k : ℕ) → 0 < k → k < (first_of_utf8 us).width → allows continuation (get_or us k 0) ≡ true
inside_utf8 [] k some h = absurd (omega arith)
inside_utf8 (b ∷ bs) zero some h = absurd (omega arith)
inside_utf8 (b ∷ bs) (suc j) some h = by_cases (λ s. suc j < s.width → allows continuation (get_or bs j 0) ≡ true) b bs
    (λ _ h. absurd (omega arith))
    (λ r e m h. allows-continuation r.trail j _ (row_of-IsRow b r e).0.trail (allows-below_matched r.trail bs j (omega arith)))
    (λ r e m h. allows-continuation r.trail j _ (row_of-IsRow b r e).0.trail (allows-below_matched r.trail bs j (omega arith)))
    h

-- no character begins with a continuation byte
alone_utf8 : (us : List ℕ) → 0 < length us → allows continuation (get_or us 0 0) ≡ true → first_of_utf8 us ≡ replacement_step 1
alone_utf8 [] h e = absurd (omega arith)
alone_utf8 (b ∷ bs) h e = by (row_of b) refl
  where
    by : (o : Option Row) → row_of b ≡ o → first_by_row o b bs ≡ replacement_step 1
    by None _ = refl
    by (Some r) f =
        let k = row_of-IsRow b r f in
        let low = allows-true continuation b e in
        let lead = allows-true r.lead b k.1 in absurd (⊎_elim (λ l. omega arith) (λ g. omega arith) k.0.lead)

pub IsDecoding-utf8 : IsDecoding Encoding.Utf8
IsDecoding-utf8 = record {
  some = some_utf8;
  fits = fits_utf8;
  scalar = scalar_utf8;
  error = error_utf8;
  cut = cut_utf8;
  extends = extends_utf8;
}

pub HasTrails-utf8 : HasTrails Encoding.Utf8
HasTrails-utf8 = record { inside = inside_utf8; alone = alone_utf8; short = short_utf8 }
