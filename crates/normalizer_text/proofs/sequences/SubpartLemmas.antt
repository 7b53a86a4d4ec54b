-- The step that decoding finds in front of bytes is the standard's, and no other is.
use Rattle.std.proofs.Common.{◌≡◌, ℕ, true, zero, suc, ◌<◌, ◌≤◌, inl, inr, List, [], ◌∷◌, ◌++◌, length, length-take-le}
use Rattle.std.proofs.Common.{take, drop, take-append-drop, get_or, map, Some, None, arith, lit<, lit≤, refl, ap, sym, subst, ◌∙◌, ⊎_elim}
use Rattle.std.specs.Prelude.{slice_index_or}
use Rattle.std.specs.List.{Contains}
use Rattle.std.proofs.lemmas.Bool.{cases_Bool}
use Rattle.normalizer_text.specs.declared.decoding_step.Step.{Step}
use Rattle.normalizer_text.specs.DecodingSteps.{read, replacement_step}
use Rattle.normalizer_text.specs.Utf8.{ByteRange, Row, continuation, well_formed_sequences, row_of, allows, matched_count, scalar_value, first_by_row, first_of_utf8}
use Rattle.normalizer_text.specs.MaximalSubparts.{IsWithin, AreWithin, IsWellFormedSequence, BeginsSequence, IsMaximalSubpart, IsStepOfUtf8}
use Rattle.normalizer_text.proofs.sequences.MatchLemmas.{allows-true, matched-le, AreWithin-matched}
use Rattle.normalizer_text.proofs.sequences.RowLemmas.{Each, find-Each, row_of-IsRow, by_row-whole}
use Rattle.normalizer_text.proofs.sequences.SequenceLemmas.{row-ascii, row-two, row-E0, row-E1, row-ED, row-EE, row-F0, row-F1, row-F4, allows_from, matched-AreWithin}
use Rattle.normalizer_text.proofs.sequences.SequenceLemmas.{HasRow-sequence, first-sequence}
use Rattle.normalizer_passing.specs.PassBytes.{byte_of}
use Rattle.normalizer_text.specs.Passing.{PassesBy}
use Rattle.normalizer_text.specs.inner.Trails.{IsFirstSequence, LeadsFour, LeadsThree}
use Rattle.normalizer_text.proofs.sequences.Sequences.{IsSequence}
use Rattle.normalizer_text.proofs.rules.Utf8Lemmas.{by_cases}

-- ---- rows

-- what is known of each row besides: it is the one that the bytes of its lead begin
record IsTableRow (r : Row) : Type 0 where
  listed : Contains well_formed_sequences r
  leads : (b : ℕ) → IsWithin r.lead b → row_of b ≡ Some r
  are_nonempty : Each (λ t. t.least ≤ t.greatest) r.trail

each-IsTableRow : Each IsTableRow well_formed_sequences
each-IsTableRow = (
  record { listed = (0, lit< tt, refl); leads = (λ b h. row-ascii b (omega arith)); are_nonempty = tt },
  (
    record { listed = (1, lit< tt, refl); leads = (λ b h. row-two b (omega arith) (omega arith)); are_nonempty = (lit≤ tt, tt) },
    (
      record { listed = (2, lit< tt, refl); leads = (λ b h. row-E0 b (omega arith)); are_nonempty = (lit≤ tt, (lit≤ tt, tt)) },
      (
        record { listed = (3, lit< tt, refl); leads = (λ b h. row-E1 b (omega arith) (omega arith)); are_nonempty = (lit≤ tt, (lit≤ tt, tt)) },
        (
          record { listed = (4, lit< tt, refl); leads = (λ b h. row-ED b (omega arith)); are_nonempty = (lit≤ tt, (lit≤ tt, tt)) },
          (
            record { listed = (5, lit< tt, refl); leads = (λ b h. row-EE b (omega arith) (omega arith)); are_nonempty = (lit≤ tt, (lit≤ tt, tt)) },
            (
              record { listed = (6, lit< tt, refl); leads = (λ b h. row-F0 b (omega arith)); are_nonempty = (lit≤ tt, (lit≤ tt, (lit≤ tt, tt))) },
              (
                record { listed = (7, lit< tt, refl); leads = (λ b h. row-F1 b (omega arith) (omega arith)); are_nonempty = (lit≤ tt, (lit≤ tt, (lit≤ tt, tt))) },
                (record { listed = (8, lit< tt, refl); leads = (λ b h. row-F4 b (omega arith)); are_nonempty = (lit≤ tt, (lit≤ tt, (lit≤ tt, tt))) }, tt),
              ),
            ),
          ),
        ),
      ),
    ),
  ),
)

row_of-IsTableRow : (b : ℕ) (r : Row) → row_of b ≡ Some r → IsTableRow r
unfolding row_of
row_of-IsTableRow b r e = (find-Each (λ r. allows r.lead b) IsTableRow well_formed_sequences each-IsTableRow r e).0

-- what each has, one that is listed has
Each-at : {X : Type 0} (P : X → Type 0) (xs : List X) → Each P xs → (x : X) (k : ℕ) → k < length xs → slice_index_or xs k x ≡ x → P x
Each-at P [] all x k less e = absurd (omega arith)
Each-at P (y ∷ ys) all x zero less e = subst P e all.0
Each-at P (y ∷ ys) all x (suc k) less e = Each-at P ys all.1 x k (omega arith) e

row_of-listed : (r : Row) → Contains well_formed_sequences r → (b : ℕ) → IsWithin r.lead b → row_of b ≡ Some r
row_of-listed r listed b within = (Each-at IsTableRow well_formed_sequences each-IsTableRow r listed.0 listed.1 listed.2).leads b within

lead-IsWithin : (b : ℕ) (r : Row) → row_of b ≡ Some r → IsWithin r.lead b
lead-IsWithin b r e = allows-true r.lead b (row_of-IsRow b r e).1

-- ---- the bounds on the bytes of a sequence

pub bounds_of_sequence : (bytes : List ℕ) → IsWellFormedSequence bytes → IsSequence bytes
bounds_of_sequence [] s = absurd s.within
bounds_of_sequence (b ∷ bs) s = (row_of-IsRow b s.row (row_of-listed s.row s.listed b s.within.0)).0.sequences b bs s.within.0 s.within.1

pub sequence_of_bounds : (bytes : List ℕ) → IsSequence bytes → IsWellFormedSequence bytes
sequence_of_bounds [] s = absurd s
sequence_of_bounds (b ∷ bs) s =
    let k = HasRow-sequence b bs s in
    record { row = k.r; listed = (row_of-IsTableRow b k.r k.is).listed; within = (lead-IsWithin b k.r k.is, k.within) }

-- ---- a sequence of each length

pub sequence-one : (bytes : List ℕ) → length bytes ≡ 1 → get_or bytes 0 0 ≤ 0x7F → IsWellFormedSequence bytes
sequence-one [] long = absurd (omega arith)
sequence-one (a ∷ []) long = λ low. sequence_of_bounds (a ∷ []) (omega arith)
sequence-one (a ∷ b ∷ bs) long = absurd (omega arith)

pub sequence-two : (bytes : List ℕ) → length bytes ≡ 2 → 0xC2 ≤ get_or bytes 0 0 → get_or bytes 0 0 ≤ 0xDF → allows continuation (get_or bytes 1 0) ≡ true → IsWellFormedSequence bytes
sequence-two [] long = absurd (omega arith)
sequence-two (a ∷ []) long = absurd (omega arith)
sequence-two (a ∷ b ∷ []) long = λ least greatest second. let s = allows-true continuation b second in sequence_of_bounds (a ∷ b ∷ []) (least, greatest, s.0, s.1)
sequence-two (a ∷ b ∷ c ∷ bs) long = absurd (omega arith)

pub sequence-three : (bytes : List ℕ) → length bytes ≡ 3 → LeadsThree (get_or bytes 0 0) (get_or bytes 1 0) → allows continuation (get_or bytes 2 0) ≡ true → IsWellFormedSequence bytes
sequence-three [] long = absurd (omega arith)
sequence-three (a ∷ []) long = absurd (omega arith)
sequence-three (a ∷ b ∷ []) long = absurd (omega arith)
sequence-three (a ∷ b ∷ c ∷ []) long = λ leads third.
    let t = allows-true continuation c third in
    sequence_of_bounds (a ∷ b ∷ c ∷ []) (leads.0, leads.1, leads.2, leads.3, leads.4, leads.5, t.0, t.1)
sequence-three (a ∷ b ∷ c ∷ d ∷ bs) long = absurd (omega arith)

pub sequence-four : (bytes : List ℕ) → length bytes ≡ 4 → LeadsFour (get_or bytes 0 0) (get_or bytes 1 0) → allows continuation (get_or bytes 2 0) ≡ true
    → allows continuation (get_or bytes 3 0) ≡ true → IsWellFormedSequence bytes
sequence-four [] long = absurd (omega arith)
sequence-four (a ∷ []) long = absurd (omega arith)
sequence-four (a ∷ b ∷ []) long = absurd (omega arith)
sequence-four (a ∷ b ∷ c ∷ []) long = absurd (omega arith)
sequence-four (a ∷ b ∷ c ∷ d ∷ []) long = λ leads third fourth.
    let t = allows-true continuation c third in
    let f = allows-true continuation d fourth in
    sequence_of_bounds (a ∷ b ∷ c ∷ d ∷ []) (leads.0, leads.1, leads.2, leads.3, leads.4, leads.5, t.0, t.1, f.0, f.1)
sequence-four (a ∷ b ∷ c ∷ d ∷ e ∷ bs) long = absurd (omega arith)

-- ---- a sequence in front

-- the first bytes are it
pub IsFirstSequence-take : (bytes : List ℕ) (n : ℕ) → n ≤ length bytes → IsWellFormedSequence (take n bytes) → IsFirstSequence bytes (take n bytes)
IsFirstSequence-take bytes n within s = (ap (λ k. take k bytes) (sym (length-take-le n bytes within)), s)

-- the step there is that of its character
pub first-begins : (bytes sequence : List ℕ) → IsFirstSequence bytes sequence → read (scalar_value sequence) (length sequence) ≡ first_of_utf8 bytes
first-begins bytes sequence s =
    sym (first-sequence sequence (drop (length sequence) bytes) (bounds_of_sequence sequence s.1))
    ∙ ap first_of_utf8 (ap (λ l. l ++ drop (length sequence) bytes) s.0 ∙ take-append-drop (length sequence) bytes)

-- it has the byte of its value
pub PassesBy-begins : (bytes text sequence : List ℕ) (byte : ℕ) → IsFirstSequence text sequence → byte ≡ byte_of bytes (scalar_value sequence)
    → PassesBy bytes (first_of_utf8 text) byte (length sequence)
PassesBy-begins bytes text sequence byte s is =
    subst (λ t. PassesBy bytes t byte (length sequence)) (first-begins text sequence s) (λ _. (refl, refl, sym is))

-- ---- beginnings of a sequence

least_bytes : (rs : List ByteRange) → Each (λ t. t.least ≤ t.greatest) rs → AreWithin rs (map (λ t. t.least) rs)
least_bytes [] h = tt
least_bytes (r ∷ rs) h = ((omega arith, h.0), least_bytes rs h.1)

-- the bytes that are matched can be completed
completed : (rs : List ByteRange) (bs : List ℕ) → Each (λ t. t.least ≤ t.greatest) rs → (more : List ℕ) × AreWithin rs (take (matched_count rs bs) bs ++ more)
completed [] bs h = ([], tt)
completed (r ∷ rs) [] h = (map (λ t. t.least) (r ∷ rs), least_bytes (r ∷ rs) h)
completed (r ∷ rs) (b ∷ bs) h = ⊎_elim
    (λ yes. let k = completed rs bs h.1 in (k.0, rw yes (allows-true r b yes, k.1)))
    (λ no. (map (λ t. t.least) (r ∷ rs), rw no (least_bytes (r ∷ rs) h)))
    (cases_Bool (allows r b))

-- bytes that can be completed are matched
matched-front : (rs : List ByteRange) (bs more : List ℕ) (k : ℕ) → k ≤ length bs → AreWithin rs (take k bs ++ more) → k ≤ matched_count rs bs
matched-front rs bs more zero le h = omega arith
matched-front rs [] more (suc k) le h = absurd (omega arith)
matched-front [] (b ∷ bs) more (suc k) le h = absurd h
matched-front (r ∷ rs) (b ∷ bs) more (suc k) le h =
    let i = matched-front rs bs more k (omega arith) h.1 in rw (allows_from r b h.0) (omega arith)

-- ---- the step in front

-- the row of a sequence that begins with b
row_of-sequence : (b : ℕ) (bs : List ℕ) (s : IsWellFormedSequence (b ∷ bs)) → row_of b ≡ Some s.row
row_of-sequence b bs s = row_of-listed s.row s.listed b s.within.0

same_row : (b : ℕ) (bs : List ℕ) (s : IsWellFormedSequence (b ∷ bs)) (r : Row) → row_of b ≡ Some r → AreWithin r.trail bs
same_row b bs s r e =
    let same : s.row ≡ r = (let k : Some s.row ≡ Some r = sym (row_of-sequence b bs s) ∙ e in cc) in
    subst (λ t. AreWithin t.trail bs) same s.within.1

-- a sequence in front matches its row
matched-sequence : (b : ℕ) (bs : List ℕ) (k : ℕ) → IsWellFormedSequence (b ∷ take k bs) → (r : Row) → row_of b ≡ Some r → (matched_count r.trail bs ≡ length r.trail) × (length (take k bs) ≡ length r.trail)
matched-sequence b bs k s r e =
    let m = matched-AreWithin r.trail (take k bs) (drop k bs) (same_row b (take k bs) s r e) in
    (ap (matched_count r.trail) (sym (take-append-drop k bs)) ∙ m.0, m.1)

-- no sequence is at the front if its row is not matched
unmatched : (b : ℕ) (bs : List ℕ) → ((r : Row) → row_of b ≡ Some r → matched_count r.trail bs < length r.trail) → (n : ℕ) → IsWellFormedSequence (take n (b ∷ bs)) → ⊥
unmatched b bs short zero s = s.within
unmatched b bs short (suc k) s =
    let e = row_of-sequence b (take k bs) s in
    let m = matched-sequence b bs k s s.row e in
    let less = short s.row e in omega (arith, m.0)

no_row : (b : ℕ) → row_of b ≡ None → (r : Row) → row_of b ≡ Some r → ⊥
no_row b none r e = let k : None ≡ Some r = sym none ∙ e in cc

IsMaximalSubpart-one : (b : ℕ) (bs : List ℕ) → row_of b ≡ None → IsMaximalSubpart (b ∷ bs) 1
IsMaximalSubpart-one b bs none = record { some = omega arith; within = omega arith; begins = inl refl; longest = longest }
  where
    longest : (m : ℕ) → m ≤ length (b ∷ bs) → BeginsSequence (take m (b ∷ bs)) → m ≤ 1
    longest zero le s = omega arith
    longest (suc k) le s = absurd (no_row b none s.1.row (row_of-sequence b (take k bs ++ s.0) s.1))

IsMaximalSubpart-matched : (b : ℕ) (bs : List ℕ) (r : Row) → row_of b ≡ Some r → IsMaximalSubpart (b ∷ bs) (suc (matched_count r.trail bs))
IsMaximalSubpart-matched b bs r e =
    let t = row_of-IsTableRow b r e in
    let le = matched-le r.trail bs in
    let full = completed r.trail bs t.are_nonempty in
    record {
      some = omega arith;
      within = omega arith;
      begins = inr (full.0, record { row = r; listed = t.listed; within = (lead-IsWithin b r e, full.1) });
      longest = longest;
    }
  where
    longest : (m : ℕ) → m ≤ length (b ∷ bs) → BeginsSequence (take m (b ∷ bs)) → m ≤ suc (matched_count r.trail bs)
    longest zero le s = omega arith
    longest (suc k) le s =
        let i = matched-front r.trail bs s.0 k (omega arith) (same_row b (take k bs ++ s.0) s.1 r e) in omega arith

-- the step that decoding finds
pub IsStepOfUtf8-first : (bytes : List ℕ) → 0 < length bytes → IsStepOfUtf8 bytes (first_of_utf8 bytes)
IsStepOfUtf8-first [] h = absurd (omega arith)
IsStepOfUtf8-first (b ∷ bs) h = by_cases (IsStepOfUtf8 (b ∷ bs)) b bs
    (λ none. IsStepOfUtf8.subpart 1 (unmatched b bs (λ r e. absurd (no_row b none r e))) (IsMaximalSubpart-one b bs none))
    (λ r e m.
    let le = matched-le r.trail bs in
    IsStepOfUtf8.sequence (suc (length r.trail)) (omega arith)
    (record { row = r; listed = (row_of-IsTableRow b r e).listed; within = (lead-IsWithin b r e, AreWithin-matched r.trail bs m) }))
    (λ r e m.
    let same : (s : Row) → row_of b ≡ Some s → matched_count s.trail bs < length s.trail = λ s f.
    let k : r ≡ s = (let i : Some r ≡ Some s = sym e ∙ f in cc) in subst (λ t. matched_count t.trail bs < length t.trail) k m in
    IsStepOfUtf8.subpart (suc (matched_count r.trail bs)) (unmatched b bs same) (IsMaximalSubpart-matched b bs r e))

-- ---- no other

maximal_le : (bytes : List ℕ) (n m : ℕ) → IsMaximalSubpart bytes n → IsMaximalSubpart bytes m → n ≤ m
maximal_le bytes n m a b = ⊎_elim (λ one. let some = b.some in omega arith) (λ begins. b.longest n a.within begins) a.begins

sequence_step : (b : ℕ) (bs : List ℕ) (n : ℕ) → n ≤ length (b ∷ bs) → IsWellFormedSequence (take n (b ∷ bs)) → read (scalar_value (take n (b ∷ bs))) n ≡ first_of_utf8 (b ∷ bs)
sequence_step b bs zero le s = absurd s.within
sequence_step b bs (suc k) le s =
    let e = row_of-sequence b (take k bs) s in
    let m = matched-sequence b bs k s s.row e in
    let size : k ≡ length s.row.trail = sym (length-take-le k bs (omega arith)) ∙ m.1 in
    ap (λ n. read (scalar_value (b ∷ take n bs)) (suc n)) size
    ∙ sym (ap (λ o. first_by_row o b bs) e ∙ by_row-whole s.row b bs m.0)

subpart_step : (b : ℕ) (bs : List ℕ) (n : ℕ) → ((m : ℕ) → IsWellFormedSequence (take m (b ∷ bs)) → ⊥) → IsMaximalSubpart (b ∷ bs) n → replacement_step n ≡ first_of_utf8 (b ∷ bs)
subpart_step b bs n no_sequence maximal = by_cases (λ s. replacement_step n ≡ s) b bs
    (λ none. same 1 (IsMaximalSubpart-one b bs none))
    (λ r e m. absurd (no_sequence (suc (length r.trail)) (record { row = r; listed = (row_of-IsTableRow b r e).listed; within = (lead-IsWithin b r e, AreWithin-matched r.trail bs m) })))
    (λ r e m. same (suc (matched_count r.trail bs)) (IsMaximalSubpart-matched b bs r e))
  where
    same : (m : ℕ) → IsMaximalSubpart (b ∷ bs) m → replacement_step n ≡ replacement_step m
    same m other =
        let up = maximal_le (b ∷ bs) n m maximal other in
        let down = maximal_le (b ∷ bs) m n other maximal in
        let e : n ≡ m = omega arith in ap replacement_step e

pub IsStepOfUtf8-only : (bytes : List ℕ) (s : Step) → 0 < length bytes → IsStepOfUtf8 bytes s → s ≡ first_of_utf8 bytes
IsStepOfUtf8-only [] s h is = absurd (omega arith)
IsStepOfUtf8-only (b ∷ bs) s h (IsStepOfUtf8.sequence n le is) = sequence_step b bs n le is
IsStepOfUtf8-only (b ∷ bs) s h (IsStepOfUtf8.subpart n no_sequence maximal) = subpart_step b bs n no_sequence maximal
