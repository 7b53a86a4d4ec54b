-- What the rows of the table of well-formed sequences have in common.
use Rattle.std.proofs.Common.{◌≡◌, ℕ, suc, ◌+◌, ◌<◌, ◌≤◌, Bool, true, List, [], ◌∷◌, length, take, drop, get_or}
use Rattle.std.proofs.Common.{Option, Some, None, arith, lit<, lit≤, ◌⊎◌, inl, inr, refl, ap, sym, subst, ◌∙◌, ⊎_elim}
use Rattle.std.specs.Prelude.{find, option_map}
use Rattle.std.proofs.lemmas.List.{length-replicate}
use Rattle.std.proofs.lemmas.Bool.{cases_Bool, ne_eqb, eq-eqb, cases_eq}
use Rattle.normalizer_text.specs.declared.utf8.Trail.{Trail}
use Rattle.normalizer_text.specs.DecodingSteps.{read, replacement_step}
use Rattle.normalizer_text.specs.Utf8.{ByteRange, Row, row, continuation, well_formed_sequences, row_of, allows, matched_count, scalar_value, first_by_row, first_of_utf8}
use Rattle.normalizer_text.specs.MaximalSubparts.{IsWithin, AreWithin}
use Rattle.normalizer_text.specs.inner.Trails.{trail_ranges}
use Rattle.normalizer_text.proofs.sequences.Sequences.{IsSequence}
use Rattle.normalizer_text.proofs.sequences.MatchLemmas.{allows-true, AreWithin-matched, matched-le}

abbrev pub Each : {X : Type 0} → (X → Type 0) → List X → Type 0
Each P [] = Unit {0}
Each P (x ∷ xs) = P x × Each P xs

-- what `find` finds passes the test, and has what each has
pub find-Each : {X : Type 0} (p : X → Bool) (P : X → Type 0) (xs : List X) → Each P xs → (x : X) → find p xs ≡ Some x → P x × (p x ≡ true)
find-Each p P [] all x e = cc
find-Each p P (y ∷ ys) all x e = ⊎_elim
    (λ yes. let k : y ≡ x = (let i = rw yes at e in cc) in (subst P k all.0, ap p (sym k) ∙ yes))
    (λ no. find-Each p P ys all.1 x (rw no at e))
    (cases_Bool (p y))

pub length-trail_ranges : (t : Trail) → length (trail_ranges t) ≡ t.length
length-trail_ranges t = ⊎_elim
    (λ z. rw (eq-eqb t.length 0 z) (sym z))
    (λ some. rw (ne_eqb t.length 0 some) (rw length-replicate (omega arith)))
    (cases_eq t.length 0)

-- ---- the bounds on each byte of a sequence

abbrev pub HasSequences : Row → Type 0
HasSequences r = (b : ℕ) (bs : List ℕ) → IsWithin r.lead b → AreWithin r.trail bs → IsSequence (b ∷ bs)

-- what is known of each row
pub record IsRow (r : Row) : Type 0 where
  pub sequences : HasSequences r
  pub lead : (r.lead.greatest < 0x80) ⊎ (0xBF < r.lead.least)
  pub trail : Each (λ t. (0x80 ≤ t.least) × (t.greatest ≤ 0xBF)) r.trail
  pub short : length r.trail ≤ 3

two : (b : ℕ) (r : ByteRange) → ((c : ℕ) → IsWithin r c → IsSequence (b ∷ c ∷ [])) → (bs : List ℕ) → AreWithin (r ∷ []) bs → IsSequence (b ∷ bs)
two b r f [] h = absurd h
two b r f (c ∷ []) h = f c h.0
two b r f (c ∷ d ∷ bs) h = absurd h.1

three : (b : ℕ) (r s : ByteRange) → ((c d : ℕ) → IsWithin r c → IsWithin s d → IsSequence (b ∷ c ∷ d ∷ [])) → (bs : List ℕ) → AreWithin (r ∷ s ∷ []) bs → IsSequence (b ∷ bs)
three b r s f [] h = absurd h
three b r s f (c ∷ []) h = absurd h.1
three b r s f (c ∷ d ∷ []) h = f c d h.0 h.1.0
three b r s f (c ∷ d ∷ e ∷ bs) h = absurd h.1.1

four : (b : ℕ) (r s t : ByteRange) → ((c d e : ℕ) → IsWithin r c → IsWithin s d → IsWithin t e → IsSequence (b ∷ c ∷ d ∷ e ∷ [])) → (bs : List ℕ) → AreWithin (r ∷ s ∷ t ∷ []) bs → IsSequence (b ∷ bs)
four b r s t f [] h = absurd h
four b r s t f (c ∷ []) h = absurd h.1
four b r s t f (c ∷ d ∷ []) h = absurd h.1.1
four b r s t f (c ∷ d ∷ e ∷ []) h = f c d e h.0 h.1.0 h.1.1.0
four b r s t f (c ∷ d ∷ e ∷ u ∷ bs) h = absurd h.1.1.1

one : (b : ℕ) → IsSequence (b ∷ []) → (bs : List ℕ) → AreWithin [] bs → IsSequence (b ∷ bs)
one b h [] _ = h
one b h (c ∷ bs) k = absurd k

-- a row of three bytes, by the bounds on the first byte and on the second one
IsRow-three : (lead second : ByteRange) → (0xE0 ≤ lead.least) × (lead.greatest ≤ 0xEF) → (0x80 ≤ second.least) × (second.greatest ≤ 0xBF)
    → ((b : ℕ) → IsWithin lead b → (b ≡ 0xE0 → 0xA0 ≤ second.least) × (b ≡ 0xED → second.greatest ≤ 0x9F)) → IsRow (row lead (second ∷ continuation ∷ []))
IsRow-three lead second leads seconds bounds = record {
  sequences = λ b bs h.
      let most = bounds b h in
      three b second continuation
      (λ c d k l. (omega arith, omega arith, (λ e. omega (arith, most.0 e)), (λ e. omega (arith, most.1 e)), omega arith, omega arith, omega arith, omega arith)) bs;
  lead = inr (omega arith);
  trail = (seconds, ((lit≤ tt, lit≤ tt), tt));
  short = lit≤ tt;
}

-- one of four bytes
IsRow-four : (lead second : ByteRange) → (0xF0 ≤ lead.least) × (lead.greatest ≤ 0xF4) → (0x80 ≤ second.least) × (second.greatest ≤ 0xBF)
    → ((b : ℕ) → IsWithin lead b → (b ≡ 0xF0 → 0x90 ≤ second.least) × (b ≡ 0xF4 → second.greatest ≤ 0x8F)) → IsRow (row lead (second ∷ continuation ∷ continuation ∷ []))
IsRow-four lead second leads seconds bounds = record {
  sequences = λ b bs h.
      let most = bounds b h in
      four b second continuation continuation
      (λ c d e k l m. (
        omega arith,
        omega arith,
        (λ i. omega (arith, most.0 i)),
        (λ i. omega (arith, most.1 i)),
        omega arith,
        omega arith,
        omega arith,
        omega arith,
        omega arith,
        omega arith,
      )) bs;
  lead = inr (omega arith);
  trail = (seconds, ((lit≤ tt, lit≤ tt), ((lit≤ tt, lit≤ tt), tt)));
  short = lit≤ tt;
}

each-IsRow : Each IsRow well_formed_sequences
each-IsRow = (
  record {
    sequences = λ b bs h. one b (omega arith) bs;
    lead = inl (lit< tt);
    trail = tt;
    short = lit≤ tt;
  },
  (
    record {
      sequences = λ b bs h. two b _ (λ c k. (omega arith, omega arith, omega arith, omega arith)) bs;
      lead = inr (lit< tt);
      trail = ((lit≤ tt, lit≤ tt), tt);
      short = lit≤ tt;
    },
    (IsRow-three _ _ (lit≤ tt, lit≤ tt) (lit≤ tt, lit≤ tt) (λ b h. ((λ e. omega arith), (λ e. omega arith))), (IsRow-three _ _ (lit≤ tt, lit≤ tt) (lit≤ tt, lit≤ tt) (λ b h. ((λ e. omega arith), (λ e. omega arith))), (IsRow-three _ _ (lit≤ tt, lit≤ tt) (lit≤ tt, lit≤ tt) (λ b h. ((λ e. omega arith), (λ e. omega arith))), (IsRow-three _ _ (lit≤ tt, lit≤ tt) (lit≤ tt, lit≤ tt) (λ b h. ((λ e. omega arith), (λ e. omega arith))), (IsRow-four _ _ (lit≤ tt, lit≤ tt) (lit≤ tt, lit≤ tt) (λ b h. ((λ e. omega arith), (λ e. omega arith))), (IsRow-four _ _ (lit≤ tt, lit≤ tt) (lit≤ tt, lit≤ tt) (λ b h. ((λ e. omega arith), (λ e. omega arith))), (IsRow-four _ _ (lit≤ tt, lit≤ tt) (lit≤ tt, lit≤ tt) (λ b h. ((λ e. omega arith), (λ e. omega arith))), tt))))))),
  ),
)

pub row_of-IsRow : (b : ℕ) (r : Row) → row_of b ≡ Some r → IsRow r × (allows r.lead b ≡ true)
unfolding row_of
row_of-IsRow b r e = find-Each (λ r. allows r.lead b) IsRow well_formed_sequences each-IsRow r e

-- a row's sequence in front
pub IsSequence-row : (b : ℕ) (bs : List ℕ) (r : Row) → row_of b ≡ Some r → matched_count r.trail bs ≡ length r.trail → IsSequence (b ∷ take (length r.trail) bs)
IsSequence-row b bs r e m =
    let k = row_of-IsRow b r e in
    k.0.sequences b _ (allows-true r.lead b k.1) (AreWithin-matched r.trail bs m)

-- ---- the step in front, from the bytes that may follow the first one

row_trail : (o : Option Row) (rs : List ByteRange) → Some rs ≡ option_map (λ r. r.trail) o → (r : Row) × (o ≡ Some r) × (rs ≡ r.trail)
row_trail None rs e = cc
row_trail (Some r) rs e = (r, refl, cc)

pub by_row-short : (r : Row) (b : ℕ) (bs : List ℕ) → matched_count r.trail bs < length r.trail → first_by_row (Some r) b bs ≡ replacement_step (suc (matched_count r.trail bs))
by_row-short r b bs m = rw (ne_eqb (matched_count r.trail bs) (length r.trail) (λ q. absurd (omega arith))) refl

pub by_row-whole : (r : Row) (b : ℕ) (bs : List ℕ) → matched_count r.trail bs ≡ length r.trail → first_by_row (Some r) b bs ≡ read (scalar_value (b ∷ take (length r.trail) bs)) (suc (length r.trail))
by_row-whole r b bs m = rw (eq-eqb (matched_count r.trail bs) (length r.trail) m) refl

-- the same if all of them are
pub record IsWhole (bytes : List ℕ) (m : ℕ) : Type 0 where
  pub fits : 1 + m ≤ length bytes
  pub sequence : IsSequence (take (1 + m) bytes)
  pub step : read (scalar_value (take (1 + m) bytes)) (1 + m) ≡ first_of_utf8 bytes

pub first-whole : (bytes : List ℕ) (t : Trail) (m : ℕ) → 0 < length bytes → Some (trail_ranges t) ≡ option_map (λ r. r.trail) (row_of (get_or bytes 0 0))
    → m ≡ matched_count (trail_ranges t) (drop 1 bytes) → t.length < 1 + m → IsWhole bytes m
first-whole [] t m h e q l = absurd (omega arith)
first-whole (b ∷ bs) t m h e q l =
    let k = row_trail (row_of b) (trail_ranges t) e in
    let le = matched-le (trail_ranges t) bs in
    let all : matched_count (trail_ranges t) bs ≡ length (trail_ranges t) = omega (arith, length-trail_ranges t) in
    let whole : matched_count k.0.trail bs ≡ length k.0.trail = subst (λ x. matched_count x bs ≡ length x) k.2 all in
    let n : suc (length k.0.trail) ≡ 1 + m = omega (arith, ap length k.2) in record {
      fits = omega arith;
      sequence = subst (λ x. IsSequence (take x (b ∷ bs))) n (IsSequence-row b bs k.0 k.1 whole);
      step = sym (ap (λ o. first_by_row o b bs) k.1 ∙ by_row-whole k.0 b bs whole ∙ ap (λ x. read (scalar_value (take x (b ∷ bs))) x) n);
    }
