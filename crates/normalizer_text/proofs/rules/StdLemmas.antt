-- What std decodes to, of bytes and of 16-bit units.
use Rattle.std.proofs.Common.{◌≡◌, ℕ, zero, suc, ◌^◌, ◌<◌, ◌≤◌, ◌⊎◌, inl, inr, Bool, true, false, ◌&&◌, cond, List, [], ◌∷◌, ◌++◌}
use Rattle.std.proofs.Common.{length, length-drop, length-take, length-take-le, nat_lt, map, take, drop, take-append-drop, replicate, Some, None, arith, refl, ap, sym, subst, ◌∙◌, ⊎_elim}
use Rattle.std.specs.Prelude.{All, unwrap_or, is_some, ◌||◌, ◌==◌}
use Rattle.std.specs.Char.{encode_utf8}
use Rattle.std.specs.Char.Utf16.{utf16_lossy_chars, lone_unit_char}
use Rattle.std.specs.Int.{is_in_range}
use Rattle.std.specs.Str.{IsValidUpTo, encode_utf8_all}
use Rattle.std.specs.Str.Lossy.{utf8_lossy, utf8_error_len, utf8_invalid_len, replacement_bytes, error_len_after_one, error_len_after_two, second_byte_min, second_byte_max}
use Rattle.std.proofs.lemmas.Bool.{true≢false, false≢true, cases_Bool, and_from, and_parts, leb-true, or_right, ne_eqb, false_from_ne_true, agree_below_at, cond-true, cond-false, le-leb, le-ltb}
use Rattle.std.proofs.lemmas.Bool.Decides.{nat_tests}
use Rattle.std.proofs.lemmas.List.{length-replicate, map-append}
use Rattle.std.proofs.lemmas.List.Elements.{All-nil, All-cons, All-head, All-tail, All-same}
use Rattle.std.proofs.lemmas.Str.{utf16_chars-nil, utf16_chars_lone, utf16_chars_pair, utf8_lossy-IsUtf8, utf8_lossy_chunk, utf8_valid_len-IsValidUpTo, encodes-append}
use Rattle.normalizer_text.specs.declared.decoding_step.Step.{Step}
use Rattle.normalizer_text.specs.DecodingSteps.{steps, width_of, IsWellFormed}
use Rattle.normalizer_text.specs.Utf8.{range, Row, row_of, well_formed_sequences, continuation, allows, matched_count, first_of_utf8, decoded_utf8}
use Rattle.normalizer_text.specs.Utf16.{is_high, is_low, pair_value, unpaired_step, decoded_utf16}
use Rattle.normalizer_text.proofs.sequences.MatchLemmas.{allows-true}
use Rattle.normalizer_text.specs.MaximalSubparts.{IsWithin}
use Rattle.normalizer_text.proofs.sequences.RowLemmas.{Each, find-Each}
use Rattle.normalizer_text.proofs.steps.StepLemmas.{IsRight, steps-nil, decoded-nil, steps-some, decoded-some, steps-append, steps-apart}
use Rattle.normalizer_text.proofs.steps.StepBoundaries.{width_of-steps, width_of-append}
use Rattle.normalizer_text.proofs.rules.Utf8Lemmas.{by_cases, IsDecoding-utf8}
use Rattle.normalizer_text.specs.Encodings.{Encoding}
use Rattle.normalizer_text.proofs.rules.EncodingLemmas.{encoded-decoded}
use Rattle.normalizer_text.proofs.rules.StrLemmas.{IsWellFormed-IsUtf8, IsUtf8-IsWellFormed}
use Rattle.normalizer_text.proofs.rules.Utf16Lemmas.{unpaired-cases, unpaired-width, first-pair, first-unpaired, pair-bounds, single-cases}

-- ---- 16-bit units

lone : (u : ℕ) → u < 2 ^ 16 → (unpaired_step u).character ≡ unwrap_or (lone_unit_char u) 0xFFFD
lone u h = unpaired-cases (λ s. s.character ≡ unwrap_or (lone_unit_char u) 0xFFFD) u
    (λ single. ⊎_elim (λ l. grind (arith, nat_tests)) (λ g. grind (arith, nat_tests)) (single-cases u single))
    (λ other. grind (arith, nat_tests))

pub decoded-lossy16 : (us : List ℕ) → All (λ u. u < 2 ^ 16) us → decoded_utf16 us ≡ utf16_lossy_chars us
decoded-lossy16 us small = by (length us) us (omega arith) small
  where
    by : (n : ℕ) (us : List ℕ) → length us ≤ n → All (λ u. u < 2 ^ 16) us → decoded_utf16 us ≡ utf16_lossy_chars us
    by n [] h s = decoded-nil Encoding.Utf16 ∙ sym (ap (map (λ o. unwrap_or o 0xFFFD)) utf16_chars-nil)
    by zero (u ∷ us) h s = absurd (omega arith)
    by (suc n) (u ∷ []) h s =
        decoded-some Encoding.Utf16 (u ∷ []) (omega arith)
        ∙ ap (λ w. (unpaired_step u).character ∷ decoded_utf16 (drop w (u ∷ []))) (unpaired-width u)
        ∙ ap (λ x. (unpaired_step u).character ∷ x) (decoded-nil Encoding.Utf16)
        ∙ ap (λ c. c ∷ []) (lone u (All-head (λ u. u < 2 ^ 16) u [] s))
        ∙ sym (ap (map (λ o. unwrap_or o 0xFFFD)) (utf16_chars_lone u [] (λ p. omega arith) ∙ ap (λ x. lone_unit_char u ∷ x) utf16_chars-nil))
    by (suc n) (u ∷ v ∷ us) h s = ⊎_elim
        (λ pair.
        let k = pair-bounds u v pair in
        let first = first-pair u v us pair in
        decoded-some Encoding.Utf16 (u ∷ v ∷ us) (omega arith)
        ∙ ap (λ s. s.character ∷ decoded_utf16 (drop s.width (u ∷ v ∷ us))) first
        ∙ ap (λ x. pair_value u v ∷ x) (by n us (omega arith) (All-tail (λ u. u < 2 ^ 16) v us (All-tail (λ u. u < 2 ^ 16) u (v ∷ us) s)))
        ∙ sym (ap (map (λ o. unwrap_or o 0xFFFD)) (utf16_chars_pair u v us (omega arith, omega arith, omega arith, omega arith))))
        (λ apart.
        let first = first-unpaired u v us apart in
        decoded-some Encoding.Utf16 (u ∷ v ∷ us) (omega arith)
        ∙ ap (λ s. s.character ∷ decoded_utf16 (drop s.width (u ∷ v ∷ us))) first
        ∙ ap (λ w. (unpaired_step u).character ∷ decoded_utf16 (drop w (u ∷ v ∷ us))) (unpaired-width u)
        ∙ ap (λ x. (unpaired_step u).character ∷ x) (by n (v ∷ us) (omega arith) (All-tail (λ u. u < 2 ^ 16) u (v ∷ us) s))
        ∙ ap (λ c. c ∷ utf16_lossy_chars (v ∷ us)) (lone u (All-head (λ u. u < 2 ^ 16) u (v ∷ us) s))
        ∙ sym (ap (map (λ o. unwrap_or o 0xFFFD)) (utf16_chars_lone u (v ∷ us) (λ p. false≢true (sym apart ∙ grind (arith, nat_tests))))))
        (cases_Bool (is_high u && is_low v))

-- ---- how many bytes one U+FFFD replaces

-- the second byte of a row, in std's words, and how many come after it
record HasSecond (r : Row) (b : ℕ) : Type 0 where
  low : 0xC2 ≤ b
  high : b ≤ 0xF4
  more : ℕ
  few : more ≤ 2
  trail : r.trail ≡ range (second_byte_min b) (second_byte_max b) ∷ replicate more continuation

abbrev HasSeconds : Row → Type 0
HasSeconds r = (b : ℕ) → IsWithin r.lead b → (r.trail ≡ []) ⊎ HasSecond r b

second : (r : Row) (b least greatest more : ℕ) → 0xC2 ≤ b → b ≤ 0xF4 → more ≤ 2 → r.trail ≡ range least greatest ∷ replicate more continuation
    → second_byte_min b ≡ least → second_byte_max b ≡ greatest → HasSecond r b
second r b least greatest more l h f t p q = record {
  low = l;
  high = h;
  more = more;
  few = f;
  trail = t ∙ ap (λ x. range x greatest ∷ replicate more continuation) (sym p)
      ∙ ap (λ y. range (second_byte_min b) y ∷ replicate more continuation) (sym q);
}

each-HasSeconds : Each HasSeconds well_formed_sequences
each-HasSeconds = (
  (λ b h. inl refl),
  (
    (λ b h. inr (second _ b 0x80 0xBF 0 (omega arith) (omega arith) (omega arith) refl (grind (arith, nat_tests)) (grind (arith, nat_tests)))),
    (
      (λ b h. inr (second _ b 0xA0 0xBF 1 (omega arith) (omega arith) (omega arith) refl (grind (arith, nat_tests)) (grind (arith, nat_tests)))),
      (
        (λ b h. inr (second _ b 0x80 0xBF 1 (omega arith) (omega arith) (omega arith) refl (grind (arith, nat_tests)) (grind (arith, nat_tests)))),
        (
          (λ b h. inr (second _ b 0x80 0x9F 1 (omega arith) (omega arith) (omega arith) refl (grind (arith, nat_tests)) (grind (arith, nat_tests)))),
          (
            (λ b h. inr (second _ b 0x80 0xBF 1 (omega arith) (omega arith) (omega arith) refl (grind (arith, nat_tests)) (grind (arith, nat_tests)))),
            (
              (λ b h. inr (second _ b 0x90 0xBF 2 (omega arith) (omega arith) (omega arith) refl (grind (arith, nat_tests)) (grind (arith, nat_tests)))),
              (
                (λ b h. inr (second _ b 0x80 0xBF 2 (omega arith) (omega arith) (omega arith) refl (grind (arith, nat_tests)) (grind (arith, nat_tests)))),
                (
                  (λ b h. inr (second _ b 0x80 0x8F 2 (omega arith) (omega arith) (omega arith) refl (grind (arith, nat_tests)) (grind (arith, nat_tests)))),
                  tt,
                ),
              ),
            ),
          ),
        ),
      ),
    ),
  ),
)

row_of-HasSeconds : (b : ℕ) (r : Row) → row_of b ≡ Some r → (r.trail ≡ []) ⊎ HasSecond r b
unfolding row_of
row_of-HasSeconds b r e = let k = find-Each (λ r. allows r.lead b) HasSeconds well_formed_sequences each-HasSeconds r e in k.0 b (allows-true r.lead b k.1)

unmatched : (t : Bool) (n : ℕ) → cond t (suc n) 0 < 1 → t ≡ false
unmatched true n h = absurd (omega arith)
unmatched false n h = refl

-- the lengths that std tests
three_of : (b c d : ℕ) (bs : List ℕ) → nat_lt (length (b ∷ c ∷ d ∷ bs)) 3 ≡ false
three_of b c d bs = le-ltb (length (b ∷ c ∷ d ∷ bs)) 3 (omega arith)

-- the bytes from the third on, and those from the second on
after_two : (b c : ℕ) (bs : List ℕ) (more : ℕ) → more ≤ 2 → matched_count (replicate more continuation) bs < more
    → unwrap_or (error_len_after_two (b ∷ c ∷ bs)) (length (b ∷ c ∷ bs)) ≡ suc (suc (matched_count (replicate more continuation) bs))
after_two b c bs zero h m = absurd (omega arith)
after_two b c [] (suc more) h m = refl
after_two b c (d ∷ bs) (suc more) h m = ⊎_elim
    (λ good. by more bs h (let k = rw good at m in omega arith) good)
    (λ wrong.
    let len = length (b ∷ c ∷ d ∷ bs) in
    ap (λ o. unwrap_or o len) (cond-false (nat_lt len 3) None _ (three_of b c d bs) ∙ cond-false (allows continuation d) _ (Some 2) wrong)
    ∙ sym (ap (λ x. suc (suc x)) (cond-false (allows continuation d) (suc (matched_count (replicate more continuation) bs)) 0 wrong)))
    (cases_Bool (allows continuation d))
  where
    by : (more : ℕ) (bs : List ℕ) → suc more ≤ 2 → matched_count (replicate more continuation) bs < more → allows continuation d ≡ true
        → unwrap_or (error_len_after_two (b ∷ c ∷ d ∷ bs)) (length (b ∷ c ∷ d ∷ bs)) ≡ suc (suc (matched_count (replicate (suc more) continuation) (d ∷ bs)))
    by zero bs h m good = absurd (omega arith)
    by (suc zero) [] h m good = ap (λ o. unwrap_or o 3) (cond-true (allows continuation d) None (Some 2) good) ∙ sym (ap (λ x. suc (suc x)) (cond-true (allows continuation d) 1 0 good))
    by (suc zero) (e ∷ bs) h m good =
        let len = length (b ∷ c ∷ d ∷ e ∷ bs) in
        ap (λ o. unwrap_or o len) (cond-false (nat_lt len 3) None _ (three_of b c d (e ∷ bs)) ∙ cond-true (allows continuation d) _ (Some 2) good
        ∙ cond-false (nat_lt len 4) None (Some 3) (le-ltb len 4 (omega arith)))
        ∙ sym (ap (λ x. suc (suc x)) (cond-true (allows continuation d) _ 0 good ∙ ap suc (cond-false (allows continuation e) 1 0 (unmatched (allows continuation e) 0 m))))
    by (suc (suc more)) bs h m good = absurd (omega arith)

after_one : (r : Row) (b : ℕ) (bs : List ℕ) → HasSecond r b → matched_count r.trail bs < length r.trail → unwrap_or (error_len_after_one (b ∷ bs)) (length (b ∷ bs)) ≡ suc (matched_count r.trail bs)
after_one r b bs h m = subst (λ x. unwrap_or (error_len_after_one (b ∷ bs)) (length (b ∷ bs)) ≡ suc (matched_count x bs)) (sym h.trail) (by bs (subst (λ x. matched_count x bs < length x) h.trail m))
  where
    by : (bs : List ℕ)
        → matched_count (range (second_byte_min b) (second_byte_max b) ∷ replicate h.more continuation) bs < suc (length (replicate h.more continuation))
        → unwrap_or (error_len_after_one (b ∷ bs)) (length (b ∷ bs)) ≡ suc (matched_count (range (second_byte_min b) (second_byte_max b) ∷ replicate h.more continuation) bs)
    by [] m = refl
    by (c ∷ bs) m =
        let len = length (b ∷ c ∷ bs) in
        let may = allows (range (second_byte_min b) (second_byte_max b)) c in
        let rest = matched_count (replicate h.more continuation) bs in
        let two : nat_lt len 2 ≡ false = le-ltb len 2 (omega arith) in ⊎_elim
        (λ good.
        let less : rest < h.more = omega (arith, length-replicate h.more continuation, cond-true may (suc rest) 0 good) in
        ap (λ o. unwrap_or o len) (cond-false (nat_lt len 2) None _ two ∙ cond-true may (error_len_after_two (b ∷ c ∷ bs)) (Some 1) good)
        ∙ after_two b c bs h.more h.few less
        ∙ sym (ap suc (cond-true may (suc rest) 0 good)))
        (λ wrong.
        ap (λ o. unwrap_or o len) (cond-false (nat_lt len 2) None _ two ∙ cond-false may (error_len_after_two (b ∷ c ∷ bs)) (Some 1) wrong)
        ∙ sym (ap suc (cond-false may (suc rest) 0 wrong)))
        (cases_Bool may)

-- a character or more begins with each of these bytes and with no other
leads : (b : ℕ) → b ≤ 0xF4 → is_some (row_of b) ≡ (nat_lt b 0x80 || is_in_range 0xC2 0xF4 b)
unfolding row_of
leads b h = agree_below_at (λ b. is_some (row_of b)) (λ b. nat_lt b 0x80 || is_in_range 0xC2 0xF4 b) 0xF5 b refl (omega arith)

in_lead : (b : ℕ) → 0xC2 ≤ b → b ≤ 0xF4 → is_in_range 0xC2 0xF4 b ≡ true
in_lead b l h = and_from _ _ (le-leb 0xC2 b l) (le-leb b 0xF4 h)

no_row : (b : ℕ) → row_of b ≡ None → is_in_range 0xC2 0xF4 b ≡ false
no_row b e = false_from_ne_true _ (λ t.
    let k = and_parts _ _ t in
    let h = leb-true _ _ k.1 in
    false≢true (sym (ap is_some e) ∙ leads b h ∙ or_right (nat_lt b 0x80) _ t))

some_bytes : (b : ℕ) (bs : List ℕ) → (length (b ∷ bs) == 0) ≡ false
some_bytes b bs = ne_eqb (length (b ∷ bs)) 0 (λ e. absurd (omega arith))

pub invalid_len : (b : ℕ) (bs : List ℕ) → (first_of_utf8 (b ∷ bs)).is_error ≡ true → utf8_invalid_len (b ∷ bs) ≡ (first_of_utf8 (b ∷ bs)).width
unfolding utf8_error_len
invalid_len b bs e = by_cases (λ s. s.is_error ≡ true → utf8_invalid_len (b ∷ bs) ≡ s.width) b bs
    (λ n _. rw (some_bytes b bs, no_row b n) refl)
    (λ r f m e. absurd (false≢true e))
    (λ r f m _. ⊎_elim
    (λ none. absurd (let k = subst (λ x. matched_count x bs < length x) none m in omega arith))
    (λ h. rw (some_bytes b bs, in_lead b h.low h.high) (after_one r b bs h m))
    (row_of-HasSeconds b r f))
    e

-- ---- the first error in bytes

-- the first steps are right, and the next one is an error
record HasError (ss : List Step) : Type 0 where
  before : List Step
  error : Step
  after : List Step
  apart : ss ≡ before ++ error ∷ after
  right : All IsRight before
  is : error.is_error ≡ true

error-cases : (ss : List Step) → All IsRight ss ⊎ HasError ss
error-cases [] = inl (All-nil IsRight)
error-cases (s ∷ ss) = ⊎_elim
    (λ wrong. inr (record { before = []; error = s; after = ss; apart = refl; right = All-nil IsRight; is = wrong }))
    (λ right. ⊎_elim
    (λ all. inl (All-cons IsRight s ss right all))
    (λ e. inr (record { before = s ∷ e.before; error = e.error; after = e.after; apart = ap (λ x. s ∷ x) e.apart; right = All-cons IsRight s e.before right e.right; is = e.is }))
    (error-cases ss))
    (cases_Bool s.is_error)

-- right steps in front come before an error
width_of-right : (front before : List Step) (rest after : List Step) (s : Step) → before ++ s ∷ after ≡ front ++ rest → All IsRight front → s.is_error ≡ true → width_of front ≤ width_of before
width_of-right [] before rest after s e r w = omega arith
width_of-right (f ∷ front) [] rest after s e r w = absurd (let k : s ≡ f = cc in true≢false (sym w ∙ ap (λ s. s.is_error) k ∙ All-head IsRight f front r))
width_of-right (f ∷ front) (b ∷ before) rest after s e r w =
    let k : b ≡ f = cc in
    let tail : before ++ s ∷ after ≡ front ++ rest = cc in
    omega (arith, width_of-right front before rest after s tail (All-tail IsRight f front r) w, ap (λ s. s.width) k)

-- the well-formed front before the first error
record IsFront (bs : List ℕ) (e : HasError (steps first_of_utf8 bs)) (n : ℕ) : Type 0 where
  front : steps first_of_utf8 (take n bs) ≡ e.before
  rest : steps first_of_utf8 (drop n bs) ≡ e.error ∷ e.after
  some : 0 < length (drop n bs)
  step : first_of_utf8 (drop n bs) ≡ e.error
  others : steps first_of_utf8 (drop e.error.width (drop n bs)) ≡ e.after
  size : length (take n bs) ≡ n

front-IsFront : (bs : List ℕ) (e : HasError (steps first_of_utf8 bs)) → IsFront bs e (width_of e.before)
front-IsFront bs e =
    let n = width_of e.before in
    let parts = steps-apart Encoding.Utf8 e.before (e.error ∷ e.after) bs e.apart in
    let all = width_of-steps Encoding.Utf8 bs in
    let sum = ap width_of e.apart ∙ width_of-append e.before (e.error ∷ e.after) in
    let some = some_steps (drop n bs) parts.1 in
    let cons : first_of_utf8 (drop n bs) ∷ steps first_of_utf8 (drop (first_of_utf8 (drop n bs)).width (drop n bs)) ≡ e.error ∷ e.after =
    sym (steps-some Encoding.Utf8 (drop n bs) some) ∙ parts.1 in
    let step : first_of_utf8 (drop n bs) ≡ e.error = cc in
    let tail : steps first_of_utf8 (drop (first_of_utf8 (drop n bs)).width (drop n bs)) ≡ e.after = cc in record {
      front = parts.0;
      rest = parts.1;
      some = some;
      step = step;
      others = ap (λ s. steps first_of_utf8 (drop s.width (drop n bs))) (sym step) ∙ tail;
      size = length-take-le n bs (omega arith);
    }
  where
    some_steps : (us : List ℕ) → steps first_of_utf8 us ≡ e.error ∷ e.after → 0 < length us
    some_steps [] k = absurd (let i : [] ≡ e.error ∷ e.after = sym (steps-nil Encoding.Utf8) ∙ k in cc)
    some_steps (u ∷ us) k = omega arith

IsValidUpTo-front : (bs : List ℕ) (e : HasError (steps first_of_utf8 bs)) → IsValidUpTo bs (width_of e.before)
IsValidUpTo-front bs e =
    let n = width_of e.before in
    let f = front-IsFront bs e in
    let some = f.some in
    let size = f.size in
    let short : n < length bs = omega (arith, length-drop n bs) in record {
      short = short;
      front = IsUtf8-IsWellFormed (take n bs) (All-same IsRight (steps first_of_utf8 (take n bs)) e.before f.front e.right);
      longest = λ m more u.
          let w = IsWellFormed-IsUtf8 (take m bs) u in
          let both : steps first_of_utf8 bs ≡ steps first_of_utf8 (take m bs) ++ steps first_of_utf8 (drop m bs) =
          ap (steps first_of_utf8) (sym (take-append-drop m bs)) ∙ steps-append Encoding.Utf8 (take m bs) (drop m bs) w in
          let le = width_of-right (steps first_of_utf8 (take m bs)) e.before (steps first_of_utf8 (drop m bs)) e.after e.error (sym e.apart ∙ both) w e.is in
          let width = width_of-steps Encoding.Utf8 (take m bs) in
          absurd (omega (arith, length-take m bs));
    }

-- bytes up to the first error, the bytes that U+FFFD replaces, and the rest
lossy-front : (bs : List ℕ) (e : HasError (steps first_of_utf8 bs))
    → utf8_lossy bs ≡ take (width_of e.before) bs ++ (replacement_bytes ++ utf8_lossy (drop e.error.width (drop (width_of e.before) bs)))
lossy-front bs e =
    let n = width_of e.before in
    let f = front-IsFront bs e in
    let left = drop n bs in
    let valid = utf8_valid_len-IsValidUpTo bs n (IsValidUpTo-front bs e) in
    let width : e.error.width ≡ (first_of_utf8 left).width = ap (λ s. s.width) (sym f.step) in
    let fits = IsDecoding-utf8.fits left f.some in
    let size = length-take-le e.error.width left (omega arith) in
    let some = IsDecoding-utf8.some left f.some in
    utf8_lossy_chunk bs (take n bs) (take e.error.width left) (drop e.error.width left)
    (sym (take-append-drop n bs) ∙ ap (λ x. take n bs ++ x) (sym (take-append-drop e.error.width left)))
    (f.size ∙ sym valid)
    (size ∙ width ∙ sym (invalid_some left f.some (ap (λ s. s.is_error) f.step ∙ e.is)) ∙ ap (λ m. utf8_invalid_len (drop m bs)) (sym valid))
    (omega arith)
  where
    invalid_some : (us : List ℕ) → 0 < length us → (first_of_utf8 us).is_error ≡ true → utf8_invalid_len us ≡ (first_of_utf8 us).width
    invalid_some [] h w = absurd (omega arith)
    invalid_some (u ∷ us) h w = invalid_len u us w

decoded-front : (bs : List ℕ) (e : HasError (steps first_of_utf8 bs))
    → decoded_utf8 bs ≡ decoded_utf8 (take (width_of e.before) bs) ++ 0xFFFD ∷ decoded_utf8 (drop e.error.width (drop (width_of e.before) bs))
decoded-front bs e =
    let n = width_of e.before in
    let f = front-IsFront bs e in
    let character : e.error.character ≡ 0xFFFD = ap (λ s. s.character) (sym f.step) ∙ IsDecoding-utf8.error (drop n bs) (ap (λ s. s.is_error) f.step ∙ e.is) in
    ap (map (λ s. s.character)) e.apart
    ∙ map-append (λ s. s.character) e.before (e.error ∷ e.after)
    ∙ ap (λ x. map (λ s. s.character) x ++ map (λ s. s.character) (e.error ∷ e.after)) (sym f.front)
    ∙ ap (λ c. decoded_utf8 (take n bs) ++ c ∷ map (λ s. s.character) e.after) character
    ∙ ap (λ x. decoded_utf8 (take n bs) ++ 0xFFFD ∷ map (λ s. s.character) x) (sym f.others)

encode-replacement : encode_utf8 0xFFFD ≡ replacement_bytes
unfolding encode_utf8
encode-replacement = refl

pub encode-decoded-lossy : (bytes : List ℕ) → encode_utf8_all (decoded_utf8 bytes) ≡ utf8_lossy bytes
encode-decoded-lossy bytes = by (suc (length bytes)) bytes (omega arith)
  where
    by : (k : ℕ) (bs : List ℕ) → length bs < k → encode_utf8_all (decoded_utf8 bs) ≡ utf8_lossy bs
    by zero bs l = absurd (omega arith)
    by (suc k) bs l = ⊎_elim
        (λ all. encoded-decoded Encoding.Utf8 bs all ∙ sym (utf8_lossy-IsUtf8 bs (IsUtf8-IsWellFormed bs all)))
        (λ e.
        let n = width_of e.before in
        let f = front-IsFront bs e in
        let rest = drop e.error.width (drop n bs) in
        let some = IsDecoding-utf8.some (drop n bs) f.some in
        let width = ap (λ s. s.width) f.step in
        let there = f.some in
        let shorter : length rest < k = omega (arith, length-drop e.error.width (drop n bs), length-drop n bs) in
        let front : IsWellFormed first_of_utf8 (take n bs) = All-same IsRight (steps first_of_utf8 (take n bs)) e.before f.front e.right in
        ap encode_utf8_all (decoded-front bs e)
        ∙ encodes-append (decoded_utf8 (take n bs)) (0xFFFD ∷ decoded_utf8 rest)
        ∙ ap (λ x. x ++ (encode_utf8 0xFFFD ++ encode_utf8_all (decoded_utf8 rest))) (encoded-decoded Encoding.Utf8 (take n bs) front)
        ∙ ap (λ x. take n bs ++ (x ++ encode_utf8_all (decoded_utf8 rest))) encode-replacement
        ∙ ap (λ x. take n bs ++ (replacement_bytes ++ x)) (by k rest shorter)
        ∙ sym (lossy-front bs e))
        (error-cases (steps first_of_utf8 bs))
