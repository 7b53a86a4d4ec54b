-- Stretches of units below a bound.
use Rattle.std.proofs.Common.{◌≡◌, ℕ, suc, ◌+◌, ◌-◌, ◌*◌, ◌/◌, ◌%◌, ◌^◌, ◌<◌, ◌≤◌, ◌⊎◌, Bool, false, not, cond, eqb, leb, ltb, replicate}
use Rattle.std.proofs.Common.{inl, inr, List, [], ◌∷◌, ◌++◌, length, take, drop, get_or, map, arith, refl, ap, sym, subst, ◌∙◌, ⊎_elim}
use Rattle.std.proofs.Math.Nat.{min-le_left, min-le_right, le-min, le-div_iff_mul-le}
use Rattle.std.specs.Prelude.{All, min, nat_lt, true, if◌then◌else◌}
use Rattle.std.specs.List.{prefix_len}
use lib.Count.{count_trailing_zeros}
use lib.Lanes.{zip2, mask_l, top}
use mir.Syntax.{Width}
use mir.Val.{bits, hbits}
use Rattle.std.proofs.lemmas.Bool.Decides.{nat_tests}
use Rattle.std.proofs.lemmas.Bool.{cases_lt, ne_eqb, eq-eqb, lt-leb, cond-true, cond-false, lt-ltb, le-ltb, true≢false, false_from_ne_true}
use Rattle.std.proofs.lemmas.List.{append-nil, length-map}
use Rattle.std.proofs.lemmas.List.Folds.{prefix_len-append}
use Rattle.std.proofs.lemmas.Simd.{chunk-drop, length-chunk, tops_compared, zip2_splat_left, mask_l-mod, leading_from_mask_l, trailing_mask_l}
use Rattle.std.proofs.lemmas.List.Sums.{prefix_len-le-length, prefix_len_stops}
use Rattle.std.proofs.lemmas.List.Elements.{All-nil, All-cons, All-head, All-tail, All-same, All-weaker}
use Rattle.normalizer_text.specs.Encodings.{Encoding, first_in, decoded_in}
use Rattle.normalizer_passing.specs.LowBounds.{low_byte}
use Rattle.normalizer_text.specs.Scans.{leading_below, EndsLowCharacters}
use Rattle.normalizer_text.specs.DecodingSteps.{read, steps, IsWellFormed, IsBoundary}
use Rattle.normalizer_text.specs.Utf8.{allows, continuation, first_of_utf8, decoded_utf8}
use Rattle.normalizer_text.specs.Utf16.{first_of_utf16}
use Rattle.normalizer_text.proofs.steps.StepLemmas.{IsRight, decoded-nil, decoded-some, steps-nil, steps-some}
use Rattle.normalizer_text.proofs.steps.BackLemmas.{boundary-at}
use Rattle.normalizer_text.proofs.steps.StepBoundaries.{boundary-after, boundary-end, boundary-well_formed, well_formed-parts}
use Rattle.normalizer_text.proofs.scans.LowLemmas.{first-ascii, first-low_unit, decoded-low}
use Rattle.normalizer_text.proofs.sequences.MatchLemmas.{allows-true}

-- ---- one unit after another

pub leading_below-le : (bound : ℕ) (units : List ℕ) → leading_below bound units ≤ length units
leading_below-le bound units = prefix_len-le-length (λ u. ltb u bound) units

pub All-leading_below : (bound : ℕ) (units : List ℕ) → All (λ u. u < bound) (take (leading_below bound units) units)
All-leading_below bound [] = All-nil (λ u. u < bound)
All-leading_below bound (u ∷ us) =
    let P = λ (u : ℕ). u < bound in
    let n = leading_below bound us in ⊎_elim
    (λ l.
    let one : leading_below bound (u ∷ us) ≡ suc n = cond-true _ _ _ (lt-ltb u bound l) ∙ (omega arith) in
    All-same P _ (take (suc n) (u ∷ us)) (ap (λ k. take k (u ∷ us)) one) (All-cons P u (take n us) l (All-leading_below bound us)))
    (λ g. All-same P _ [] (ap (λ k. take k (u ∷ us)) (cond-false _ _ _ (le-ltb u bound g))) (All-nil P))
    (cases_lt u bound)

-- ---- a mask of the units that reach the bound

-- by a comparison of vectors
pub reaching : (w : Width) (bound : ℕ) (v : List ℕ) (n : ℕ) → length v ≡ n → n ≤ 64
    → mask_l (map (top (hbits w)) (zip2 (λ a b. cond (leb a b) (2 ^ bits w - 1) 0) (replicate n bound) v)) % 2 ^ 64 ≡ mask_l (map (leb bound) v)
reaching w bound v n long few =
    ap (λ l. mask_l l % 2 ^ 64) (tops_compared w leb (replicate n bound) v ∙ zip2_splat_left leb bound n v long)
    ∙ mask_l-mod (map (leb bound) v) 64 (omega (arith, length-map v (leb bound)))

-- if the bound is too high for any of them, it is empty
pub reaching-none : (bound : ℕ) (v : List ℕ) → ((k : ℕ) → k < length v → get_or v k 0 < bound) → mask_l (map (leb bound) v) ≡ 0
reaching-none bound [] low = refl
reaching-none bound (u ∷ us) low =
    ap (λ b. cond b 1 0 + 2 * mask_l (map (leb bound) us)) (lt-leb bound u (low 0 (omega arith)))
    ∙ omega (arith, reaching-none bound us (λ k h. low (suc k) (omega arith)))

not-leb : (bound x : ℕ) → not (leb bound x) ≡ ltb x bound
not-leb bound x = grind (arith, nat_tests)

prefix_len-same : (p q : ℕ → Bool) → ((x : ℕ) → p x ≡ q x) → (xs : List ℕ) → prefix_len p xs ≡ prefix_len q xs
prefix_len-same p q same [] = refl
prefix_len-same p q same (x ∷ xs) = ap (λ n. cond (p x) (1 + n) 0) (prefix_len-same p q same xs) ∙ ap (λ b. cond b (1 + prefix_len q xs) 0) (same x)

below-same : (bound : ℕ) (v : List ℕ) → prefix_len (λ u. not (leb bound u)) v ≡ leading_below bound v
below-same bound v = prefix_len-same (λ u. not (leb bound u)) (λ u. ltb u bound) (not-leb bound) v

-- if it isn't empty, one of them does
reaching-some : (bound : ℕ) (v : List ℕ) → 0 < mask_l (map (leb bound) v) → leading_below bound v < length v
reaching-some bound [] some = absurd (omega arith)
reaching-some bound (u ∷ us) some = ⊎_elim
    (λ l.
    let more = reaching-some bound us (omega (arith, some, ap (λ b. cond b 1 0 + 2 * mask_l (map (leb bound) us)) (lt-leb bound u l))) in
    omega (arith, cond-true _ (1 + leading_below bound us) 0 (lt-ltb u bound l)))
    (λ g. omega (arith, cond-false _ (1 + leading_below bound us) 0 (le-ltb u bound g)))
    (cases_lt u bound)

module _ (bound : ℕ) (units : List ℕ) (at n mask : ℕ) (room : at + n ≤ length units) (is : mask ≡ mask_l (map (leb bound) (take n (drop at units)))) where
  long : length (take n (drop at units)) ≡ n
  long = length-chunk at n units room

  apart : leading_below bound (drop at units)
      ≡ cond (eqb (leading_below bound (take n (drop at units))) n) (n + leading_below bound (drop (at + n) units)) (leading_below bound (take n (drop at units)))
  apart =
      ap (leading_below bound) (chunk-drop at n units) ∙ prefix_len-append (λ u. ltb u bound) (take n (drop at units)) (drop (at + n) units)
      ∙ ap (λ k. cond (eqb (leading_below bound (take n (drop at units))) k) (k + leading_below bound (drop (at + n) units)) (leading_below bound (take n (drop at units)))) long

  -- the end of the units below the bound is further on
  pub end-past : mask ≡ 0 → at + n + leading_below bound (drop (at + n) units) ≡ at + leading_below bound (drop at units)
  end-past none =
      let all = sym (below-same bound (take n (drop at units))) ∙ leading_from_mask_l (leb bound) (take n (drop at units)) (sym is ∙ none) ∙ long in
      omega (arith, apart ∙ cond-true _ _ _ (eq-eqb _ n all))

  -- or it is before the first of those that reach it
  pub end-within : n ≤ 64 → 0 < mask → count_trailing_zeros 64 mask ≡ leading_below bound (drop at units)
  end-within few some =
      let v = take n (drop at units) in
      let some' = subst (λ m. 0 < m) is some in
      let less = reaching-some bound v some' in
      ap (count_trailing_zeros 64) is ∙ trailing_mask_l (leb bound) 64 v (omega (arith, long)) some' ∙ below-same bound v
      ∙ sym (apart ∙ cond-false _ _ _ (ne_eqb (leading_below bound v) n (λ e. absurd (omega (arith, long, less)))))

-- ---- units that are characters by themselves

module _ (e : Encoding) (P : ℕ → Type 0) (single : (u : ℕ) (us : List ℕ) → P u → first_in e (u ∷ us) ≡ read u 1) where
  pub steps-single : (low rest : List ℕ) → All P low → steps (first_in e) (low ++ rest) ≡ map (λ u. read u 1) low ++ steps (first_in e) rest
  steps-single [] rest all = refl
  steps-single (u ∷ low) rest all =
      steps-some e (u ∷ (low ++ rest)) (omega arith)
      ∙ ap (λ s. s ∷ steps (first_in e) (drop s.width (u ∷ (low ++ rest)))) (single u (low ++ rest) (All-head P u low all))
      ∙ ap (λ x. read u 1 ∷ x) (steps-single low rest (All-tail P u low all))

  well_formed-single : (low : List ℕ) → All P low → IsWellFormed (first_in e) low
  well_formed-single low all = All-same IsRight _ (map (λ u. read u 1) low) (
      ap (steps (first_in e)) (sym (append-nil low)) ∙ steps-single low [] all ∙ ap (λ x. map (λ u. read u 1) low ++ x) (steps-nil e) ∙ append-nil (map (λ u. read u 1) low)
      ) (by low)
    where
      by : (us : List ℕ) → All IsRight (map (λ u. read u 1) us)
      by [] = All-nil IsRight
      by (u ∷ us) = All-cons IsRight (read u 1) (map (λ u. read u 1) us) refl (by us)

  pub boundary-single : (units : List ℕ) (n : ℕ) → n ≤ length units → All P (take n units) → IsBoundary (first_in e) units n
  boundary-single units n h all = boundary-well_formed e units n h (well_formed-single (take n units) all)

pub first-low : (e : Encoding) (u : ℕ) (us : List ℕ) → u < 0x80 → first_in e (u ∷ us) ≡ read u 1
first-low Encoding.Utf8 u us h = first-ascii u us h
first-low Encoding.Utf16 u us h = first-low_unit u us (omega arith)

pub steps-ascii : (e : Encoding) (low rest : List ℕ) → All (λ u. u < 0x80) low → steps (first_in e) (low ++ rest) ≡ map (λ u. read u 1) low ++ steps (first_in e) rest
steps-ascii e = steps-single e (λ u. u < 0x80) (first-low e)

pub steps-low_units : (low rest : List ℕ) → All (λ u. u < 0xD800) low → steps first_of_utf16 (low ++ rest) ≡ map (λ u. read u 1) low ++ steps first_of_utf16 rest
steps-low_units = steps-single Encoding.Utf16 (λ u. u < 0xD800) first-low_unit

-- ---- a step ends with them

pub boundary-ascii : (e : Encoding) (bound : ℕ) (units : List ℕ) → bound ≤ 0x80 → IsBoundary (first_in e) units (leading_below bound units)
boundary-ascii e bound units h =
    boundary-single e (λ u. u < bound) (λ u us l. first-low e u us (omega arith)) units (leading_below bound units)
    (leading_below-le bound units) (All-leading_below bound units)

pub boundary-low_units : (bound : ℕ) (units : List ℕ) → bound ≤ 0xD800 → IsBoundary first_of_utf16 units (leading_below bound units)
boundary-low_units bound units h =
    boundary-single Encoding.Utf16 (λ u. u < bound) (λ u us l. first-low_unit u us (omega arith)) units (leading_below bound units)
    (leading_below-le bound units) (All-leading_below bound units)

-- no byte from C0 on comes after the first one of a sequence
lead : (b : ℕ) → 0xC0 ≤ b → allows continuation b ≡ false
lead b h = false_from_ne_true (allows continuation b) (λ e. let k = allows-true continuation b e in absurd (omega arith))

pub boundary-low_bytes : (bound : ℕ) (bytes : List ℕ) → 0xC0 ≤ bound → IsBoundary first_of_utf8 bytes (leading_below bound bytes)
boundary-low_bytes bound bytes h = ⊎_elim
    (λ within.
    let stop = prefix_len_stops (λ u. ltb u bound) bytes 0 within in
    let high : bound ≤ get_or bytes (leading_below bound bytes) 0 = ⊎_elim
    (λ l. absurd (true≢false (sym (lt-ltb _ bound l) ∙ stop))) (λ g. g) (cases_lt (get_or bytes (leading_below bound bytes) 0) bound) in
    boundary-at Encoding.Utf8 bytes (leading_below bound bytes) within (lead (get_or bytes (leading_below bound bytes) 0) (omega arith)))
    (λ past.
    let le = leading_below-le bound bytes in
    let all : length bytes ≡ leading_below bound bytes = omega arith in
    subst (IsBoundary first_of_utf8 bytes) all (boundary-end Encoding.Utf8 bytes))
    (cases_lt (leading_below bound bytes) (length bytes))

pub text-low_bytes : (limit : ℕ) → 0xC2 ≤ limit → limit ≤ 0xE0 → (bytes : List ℕ) → IsWellFormed first_of_utf8 bytes
    → All (λ c. c < (limit - 0xC0) * 64) (decoded_utf8 (take (leading_below limit bytes) bytes))
text-low_bytes limit least most bytes w =
    let front = well_formed-parts Encoding.Utf8 bytes (leading_below limit bytes) (boundary-low_bytes limit bytes (omega arith)) w in
    decoded-low limit least most (take (leading_below limit bytes) bytes) front.0 (All-leading_below limit bytes)

-- ---- how far it goes with characters below a bound

module _ (e : Encoding) (bound : ℕ) (units : List ℕ) (from : ℕ) (here : IsBoundary (first_in e) units from) where
  pub ends_low : (n : ℕ) → IsBoundary (first_in e) (drop from units) n → All (λ c. c < bound) (decoded_in e (take n (drop from units))) → EndsLowCharacters e units from bound (from + n)
  ends_low n ends low = record {
    behind = omega arith;
    boundary = boundary-after e units from n here ends;
    low = (let same : from + n - from ≡ n = omega arith in All-same (λ c. c < bound) _ _ (ap (λ k. decoded_in e (take k (drop from units))) same) low);
  }

  -- if each unit is a character by itself
  pub EndsLowCharacters-single : (limit : ℕ) → limit ≤ bound → ((u : ℕ) (us : List ℕ) → u < limit → first_in e (u ∷ us) ≡ read u 1)
      → (to : ℕ) → to ≡ from + leading_below limit (drop from units) → EndsLowCharacters e units from bound to
  EndsLowCharacters-single limit most single to is =
      let rest = drop from units in
      let n = leading_below limit rest in
      subst (EndsLowCharacters e units from bound) (sym is)
      (ends_low n
      (boundary-single e (λ u. u < limit) single rest n (leading_below-le limit rest) (All-leading_below limit rest))
      (low_text (take n rest) (All-leading_below limit rest)))
    where
      low_text : (low : List ℕ) → All (λ u. u < limit) low → All (λ c. c < bound) (decoded_in e low)
      low_text [] all = All-same (λ c. c < bound) _ _ (decoded-nil e) (All-nil (λ c. c < bound))
      low_text (u ∷ low) all =
          let small = All-head (λ u. u < limit) u low all in
          All-same (λ c. c < bound) _ _
          (decoded-some e (u ∷ low) (omega arith) ∙ ap (λ s. s.character ∷ decoded_in e (drop s.width (u ∷ low))) (single u low small))
          (All-cons (λ c. c < bound) u (decoded_in e low) (omega arith) (low_text low (All-tail (λ u. u < limit) u low all)))

-- in what is well-formed
-- bytes below this one are of characters below the bound: of single bytes, or of single bytes and of pairs
abbrev pub IsLowByteBound : ℕ → ℕ → Type 0
IsLowByteBound bound byte = ((byte ≤ 0x80) × (byte ≤ bound)) ⊎ ((0xC2 ≤ byte) × (byte ≤ 0xE0) × ((byte - 0xC0) * 64 ≤ bound))

EndsLowCharacters-within : (bound limit : ℕ) → IsLowByteBound bound limit → (bytes : List ℕ) → IsWellFormed first_of_utf8 bytes → (from : ℕ) → IsBoundary first_of_utf8 bytes from
    → (to : ℕ) → to ≡ from + leading_below limit (drop from bytes) → EndsLowCharacters Encoding.Utf8 bytes from bound to
EndsLowCharacters-within bound limit (inl single) bytes w from here to is =
    EndsLowCharacters-single Encoding.Utf8 bound bytes from here limit single.1 (λ u us l. first-ascii u us (let k = single.0 in omega arith)) to is
EndsLowCharacters-within bound limit (inr of_pairs) bytes w from here to is =
    let rest = drop from bytes in
    let n = leading_below limit rest in
    let low = text-low_bytes limit of_pairs.0 of_pairs.1 rest (well_formed-parts Encoding.Utf8 bytes from here w).1 in
    subst (EndsLowCharacters Encoding.Utf8 bytes from bound) (sym is)
    (ends_low Encoding.Utf8 bound bytes from here n (boundary-low_bytes limit rest (let k = of_pairs.0 in omega arith))
    (All-weaker (λ c. c < (limit - 0xC0) * 64) (λ c. c < bound) (λ c l. let k = of_pairs.2 in omega arith) _ low))

pub IsLowByteBound-low_byte : (bound : ℕ) → IsLowByteBound bound (low_byte bound)
IsLowByteBound-low_byte bound = elim (nat_lt bound 0xC0) as (λ b. nat_lt bound 0xC0 ≡ b → IsLowByteBound bound (if b then min bound 0x80 else 0xC0 + min (bound / 64) 0x20)) [
  | true ↦ λ below. inl (min-le_right bound 0x80, min-le_left bound 0x80)
  | false ↦ λ above.
      let most = min-le_right (bound / 64) 0x20 in
      let rows = le-div_iff_mul-le {k = 64} {x = min (bound / 64) 0x20} {y = bound} (omega arith) in
      let three : 3 ≤ bound / 64 = (le-div_iff_mul-le {k = 64} {x = 3} {y = bound} (omega arith)).1 (grind (arith, nat_tests)) in
      let least : 3 ≤ min (bound / 64) 0x20 = le-min three (omega arith) in
      let whole : min (bound / 64) 0x20 * 64 ≤ bound = rows.0 (min-le_left (bound / 64) 0x20) in
      inr (omega arith, omega arith, omega arith)
] refl

pub EndsLowCharacters-text : (bytes : List ℕ) → IsWellFormed first_of_utf8 bytes → (from bound : ℕ) → IsBoundary first_of_utf8 bytes from
    → EndsLowCharacters Encoding.Utf8 bytes from bound (from + leading_below (low_byte bound) (drop from bytes))
EndsLowCharacters-text bytes w from bound here = EndsLowCharacters-within bound (low_byte bound) (IsLowByteBound-low_byte bound) bytes w from here _ refl
