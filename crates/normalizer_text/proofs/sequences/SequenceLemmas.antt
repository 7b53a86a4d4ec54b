-- A well-formed sequence in front of bytes, and the encoding of a character.
use Rattle.std.proofs.Common.{◌≡◌, ℕ, suc, ◌+◌, ◌<◌, ◌≤◌, true, false, List, [], ◌∷◌, ◌++◌, length, length-take-le, take, get_or, Some, arith, refl, ap, sym, subst, ◌∙◌, ⊎_elim}
use Rattle.std.specs.Char.{IsScalar, encode_utf8}
use Rattle.std.specs.Str.{continuation_len}
use Rattle.std.proofs.lemmas.Bool.{true≢false, cases_eq, cases_lt, cond-true, cond-false, and_from, le-leb, lt-ltb, le-ltb}
use Rattle.std.proofs.lemmas.Bool.Decides.{nat_tests}
use Rattle.std.proofs.lemmas.List.{take_at}
use Rattle.normalizer_text.specs.DecodingSteps.{read, IsWellFormed}
use Rattle.normalizer_text.specs.Utf8.{ByteRange, range, Row, row, row_of, continuation, allows, matched_count, scalar_value, first_by_row, first_of_utf8}
use Rattle.normalizer_text.proofs.sequences.Sequences.{IsSequence}
use Rattle.normalizer_text.specs.MaximalSubparts.{IsWithin, AreWithin}
use Rattle.normalizer_text.proofs.sequences.RowLemmas.{IsSequence-row, IsWhole, by_row-whole}
use Rattle.normalizer_text.proofs.sequences.MatchLemmas.{matched-le}
use Rattle.normalizer_text.specs.Encodings.{Encoding}
use Rattle.normalizer_text.proofs.rules.Decoding.{IsEncoding}
use Rattle.normalizer_text.proofs.sequences.ScalarLemmas.{encode-scalar_value, Encodes-encode}
use Rattle.normalizer_text.proofs.steps.StepLemmas.{first-right}
use Rattle.normalizer_text.proofs.rules.Utf8Lemmas.{by_cases}

-- ---- the row of a first byte

pub row-ascii : (b : ℕ) → b ≤ 0x7F → row_of b ≡ Some (row (range 0x00 0x7F) [])
unfolding row_of
row-ascii b h = grind (arith, nat_tests)

pub row-two : (b : ℕ) → 0xC2 ≤ b → b ≤ 0xDF → row_of b ≡ Some (row (range 0xC2 0xDF) (continuation ∷ []))
unfolding row_of
row-two b h l = grind (arith, nat_tests)

pub row-E0 : (b : ℕ) → b ≡ 0xE0 → row_of b ≡ Some (row (range 0xE0 0xE0) (range 0xA0 0xBF ∷ continuation ∷ []))
unfolding row_of
row-E0 b h = grind (arith, nat_tests)

pub row-E1 : (b : ℕ) → 0xE1 ≤ b → b ≤ 0xEC → row_of b ≡ Some (row (range 0xE1 0xEC) (continuation ∷ continuation ∷ []))
unfolding row_of
row-E1 b h l = grind (arith, nat_tests)

pub row-ED : (b : ℕ) → b ≡ 0xED → row_of b ≡ Some (row (range 0xED 0xED) (range 0x80 0x9F ∷ continuation ∷ []))
unfolding row_of
row-ED b h = grind (arith, nat_tests)

pub row-EE : (b : ℕ) → 0xEE ≤ b → b ≤ 0xEF → row_of b ≡ Some (row (range 0xEE 0xEF) (continuation ∷ continuation ∷ []))
unfolding row_of
row-EE b h l = grind (arith, nat_tests)

pub row-F0 : (b : ℕ) → b ≡ 0xF0 → row_of b ≡ Some (row (range 0xF0 0xF0) (range 0x90 0xBF ∷ continuation ∷ continuation ∷ []))
unfolding row_of
row-F0 b h = grind (arith, nat_tests)

pub row-F1 : (b : ℕ) → 0xF1 ≤ b → b ≤ 0xF3 → row_of b ≡ Some (row (range 0xF1 0xF3) (continuation ∷ continuation ∷ continuation ∷ []))
unfolding row_of
row-F1 b h l = grind (arith, nat_tests)

pub row-F4 : (b : ℕ) → b ≡ 0xF4 → row_of b ≡ Some (row (range 0xF4 0xF4) (range 0x80 0x8F ∷ continuation ∷ continuation ∷ []))
unfolding row_of
row-F4 b h = grind (arith, nat_tests)

-- ---- a sequence in front

-- the places of the row that the first byte begins
pub record HasRow (b : ℕ) (bs : List ℕ) : Type 0 where
  pub r : Row
  pub is : row_of b ≡ Some r
  pub within : AreWithin r.trail bs

pub HasRow-sequence : (b : ℕ) (bs : List ℕ) → IsSequence (b ∷ bs) → HasRow b bs
HasRow-sequence b [] s = record { r = _; is = row-ascii b (omega arith); within = tt }
HasRow-sequence b (c ∷ []) s = record { r = _; is = row-two b (omega arith) (omega arith); within = ((omega arith, omega arith), tt) }
HasRow-sequence b (c ∷ d ∷ []) s = ⊎_elim
    (λ e. let k = s.2 e in record { r = _; is = row-E0 b e; within = ((omega arith, omega arith), ((omega arith, omega arith), tt)) })
    (λ ne. ⊎_elim
    (λ e. let k = s.3 e in record { r = _; is = row-ED b e; within = ((omega arith, omega arith), ((omega arith, omega arith), tt)) })
    (λ nd. ⊎_elim
    (λ l. record { r = _; is = row-E1 b (omega arith) (omega arith); within = ((omega arith, omega arith), ((omega arith, omega arith), tt)) })
    (λ g. record { r = _; is = row-EE b (omega arith) (omega arith); within = ((omega arith, omega arith), ((omega arith, omega arith), tt)) })
    (cases_lt b 0xED))
    (cases_eq b 0xED))
    (cases_eq b 0xE0)
HasRow-sequence b (c ∷ d ∷ e ∷ []) s = ⊎_elim
    (λ q. let k = s.2 q in record { r = _; is = row-F0 b q; within = ((omega arith, omega arith), ((omega arith, omega arith), ((omega arith, omega arith), tt))) })
    (λ ne. ⊎_elim
    (λ q. let k = s.3 q in record { r = _; is = row-F4 b q; within = ((omega arith, omega arith), ((omega arith, omega arith), ((omega arith, omega arith), tt))) })
    (λ nd. record { r = _; is = row-F1 b (omega arith) (omega arith); within = ((omega arith, omega arith), ((omega arith, omega arith), ((omega arith, omega arith), tt))) })
    (cases_eq b 0xF4))
    (cases_eq b 0xF0)
HasRow-sequence b (c ∷ d ∷ e ∷ f ∷ bs) s = absurd s

pub allows_from : (r : ByteRange) (b : ℕ) → IsWithin r b → allows r b ≡ true
allows_from r b h = and_from _ _ (le-leb r.least b h.0) (le-leb b r.greatest h.1)

pub matched-AreWithin : (rs : List ByteRange) (bs more : List ℕ) → AreWithin rs bs → (matched_count rs (bs ++ more) ≡ length rs) × (length bs ≡ length rs)
matched-AreWithin [] [] more h = (refl, refl)
matched-AreWithin [] (b ∷ bs) more h = absurd h
matched-AreWithin (r ∷ rs) [] more h = absurd h
matched-AreWithin (r ∷ rs) (b ∷ bs) more h = let k = matched-AreWithin rs bs more h.1 in (rw (allows_from r b h.0) (ap suc k.0), ap suc k.1)

pub first-sequence : (bytes more : List ℕ) → IsSequence bytes → first_of_utf8 (bytes ++ more) ≡ read (scalar_value bytes) (length bytes)
first-sequence [] more s = absurd s
first-sequence (b ∷ bs) more s =
    let k = HasRow-sequence b bs s in
    let m = matched-AreWithin k.r.trail bs more k.within in
    ap (λ o. first_by_row o b (bs ++ more)) k.is
    ∙ by_row-whole k.r b (bs ++ more) m.0
    ∙ ap (λ x. read (scalar_value (b ∷ x)) (suc (length k.r.trail))) (take_at bs more (length k.r.trail) m.1)
    ∙ ap (λ n. read (scalar_value (b ∷ bs)) (suc n)) (sym m.1)

-- ---- the sequence in front of well-formed bytes

-- its first byte says how many follow
pub length-sequence : (b : ℕ) (bs : List ℕ) → IsSequence (b ∷ bs) → length bs ≡ continuation_len b
length-sequence b [] s = sym (cond-true _ _ _ (lt-ltb b 128 s))
length-sequence b (c ∷ []) s = sym (cond-false _ _ _ (le-ltb b 128 (omega arith)) ∙ cond-true _ _ _ (lt-ltb b 224 (omega arith)))
length-sequence b (c ∷ d ∷ []) s = sym (cond-false _ _ _ (le-ltb b 128 (omega arith)) ∙ cond-false _ _ _ (le-ltb b 224 (omega arith)) ∙ cond-true _ _ _ (lt-ltb b 240 (omega arith)))
length-sequence b (c ∷ d ∷ e ∷ []) s =
    sym (cond-false _ _ _ (le-ltb b 128 (omega arith)) ∙ cond-false _ _ _ (le-ltb b 224 (omega arith)) ∙ cond-false _ _ _ (le-ltb b 240 (omega arith)))
length-sequence b (c ∷ d ∷ e ∷ f ∷ bs) s = absurd s

pub whole-well_formed : (bytes : List ℕ) → 0 < length bytes → IsWellFormed first_of_utf8 bytes → IsWhole bytes (continuation_len (get_or bytes 0 0))
whole-well_formed [] h w = absurd (omega arith)
whole-well_formed (b ∷ bs) h w =
    by_cases (λ s. s.is_error ≡ false → s ≡ first_of_utf8 (b ∷ bs) → IsWhole (b ∷ bs) (continuation_len b)) b bs
    (λ _ e _. absurd (true≢false e))
    (λ r f m _ same.
    let sequence = IsSequence-row b bs r f m in
    let few = matched-le r.trail bs in
    let n : suc (length r.trail) ≡ 1 + continuation_len b =
    omega (arith, length-sequence b (take (length r.trail) bs) sequence, length-take-le (length r.trail) bs (omega arith)) in record {
      fits = omega arith;
      sequence = subst (λ k. IsSequence (take k (b ∷ bs))) n sequence;
      step = sym (ap (λ k. read (scalar_value (take k (b ∷ bs))) k) n) ∙ same;
    })
    (λ r f m e _. absurd (true≢false e))
    (first-right Encoding.Utf8 (b ∷ bs) h w) refl

-- ---- the encoding of a character

first-encode : (c : ℕ) (more : List ℕ) → IsScalar c → first_of_utf8 (encode_utf8 c ++ more) ≡ read c (length (encode_utf8 c))
first-encode c more h =
    let e = Encodes-encode c h in
    first-sequence (encode_utf8 c) more e.sequence ∙ ap (λ v. read v (length (encode_utf8 c))) e.value

some-encode : (c : ℕ) → IsScalar c → 0 < length (encode_utf8 c)
some-encode c h = by (encode_utf8 c) (Encodes-encode c h).sequence
  where
    by : (bytes : List ℕ) → IsSequence bytes → 0 < length bytes
    by [] s = absurd s
    by (b ∷ bs) s = omega arith

encode-first : (us : List ℕ) → 0 < length us → (first_of_utf8 us).is_error ≡ false → encode_utf8 (first_of_utf8 us).character ≡ take (first_of_utf8 us).width us
encode-first [] h e = absurd (omega arith)
encode-first (b ∷ bs) h e = by_cases (λ s. s.is_error ≡ false → encode_utf8 s.character ≡ take s.width (b ∷ bs)) b bs
    (λ _ e. absurd (true≢false e))
    (λ r f m e. encode-scalar_value (b ∷ take (length r.trail) bs) (IsSequence-row b bs r f m))
    (λ r f m e. absurd (true≢false e))
    e

pub IsEncoding-utf8 : IsEncoding Encoding.Utf8
IsEncoding-utf8 = record { nil = refl; cons = λ c x. refl; some = some-encode; front = first-encode; back = encode-first }
