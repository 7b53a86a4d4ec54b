-- Passing over a group of 16-bit units, in which surrogates are pairs.
use Rattle.std.proofs.Common.{◌≡◌, ℕ, suc, ◌+◌, ◌-◌, ◌*◌, ◌<◌, ◌≤◌, ◌⊎◌, inl, inr, true, false, List, [], ◌∷◌, length, length-drop, get_or, drop, arith, refl, ap, subst, sym, ◌∙◌, ⊎_elim}
use Rattle.std.proofs.Math.Seq.{drop-cons}
use Rattle.std.proofs.lemmas.Bool.{and_from, and_parts, cases_Bool, cases_lt, leb-true, true≢false}
use Rattle.std.proofs.lemmas.Bool.Decides.{nat_tests}
use Rattle.std.proofs.lemmas.List.{get_or-drop}
use Rattle.normalizer_passing.specs.PassBytes.{byte_of, least_after, IsByteOfUnit}
use Rattle.normalizer_text.specs.DecodingSteps.{read}
use Rattle.normalizer_text.specs.Encodings.{Encoding}
use Rattle.normalizer_text.specs.Passing.{PassesTo, IsByteAt}
use Rattle.normalizer_text.specs.Utf16.{is_high, is_low, is_single, pair_value, unpaired_step, first_of_utf16}
use Rattle.normalizer_text.specs.inner.Groups.{ArePaired}
use Rattle.normalizer_text.proofs.scans.PassingLemmas.{PassesTo-least, PassesTo-more}
use Rattle.normalizer_text.proofs.rules.Utf16Lemmas.{cases, first-pair, first-single, high-is_single, low-is_single, single-cases, unpaired-cases, IsDecoding-utf16}

-- ---- the character at a place

first-alone : (units : List ℕ) (at : ℕ) → at < length units → is_single (get_or units at 0) ≡ true → first_of_utf16 (drop at units) ≡ read (get_or units at 0) 1
first-alone units at inside single = ap first_of_utf16 (drop-cons units at 0 inside) ∙ first-single (get_or units at 0) (drop (suc at) units) single

first-of_pair : (units : List ℕ) (at : ℕ) → at + 1 < length units → is_high (get_or units at 0) ≡ true → is_low (get_or units (at + 1) 0) ≡ true
    → first_of_utf16 (drop at units) ≡ read (pair_value (get_or units at 0) (get_or units (at + 1) 0)) 2
first-of_pair units at inside high low =
    let place : suc at ≡ at + 1 = omega arith in
    let more = drop-cons units (at + 1) 0 inside in
    let apart : drop at units ≡ get_or units at 0 ∷ get_or units (at + 1) 0 ∷ drop (suc (at + 1)) units =
    drop-cons units at 0 (omega arith) ∙ ap (λ l. get_or units at 0 ∷ l) (ap (λ i. drop i units) place ∙ more) in
    ap first_of_utf16 apart ∙ first-pair (get_or units at 0) (get_or units (at + 1) 0) (drop (suc (at + 1)) units) (and_from _ _ high low)

no_high-single : (u : ℕ) → is_single u ≡ true → is_high u ≡ false
no_high-single u single = ⊎_elim (λ l. grind (arith, nat_tests)) (λ h. grind (arith, nat_tests)) (single-cases u single)

no_high-low : (u : ℕ) → is_low u ≡ true → is_high u ≡ false
no_high-low u low = grind (arith, nat_tests)

high-bounds : (u : ℕ) → is_high u ≡ true → (0xD800 ≤ u) × (u ≤ 0xDBFF)
high-bounds u high = let k = and_parts _ _ high in (leb-true _ _ k.0, leb-true _ _ k.1)

low-bounds : (u : ℕ) → is_low u ≡ true → (0xDC00 ≤ u) × (u ≤ 0xDFFF)
low-bounds u low = let k = and_parts _ _ low in (leb-true _ _ k.0, leb-true _ _ k.1)

-- a unit that is no surrogate
single-from : (u : ℕ) → u < 0x10000 → is_high u ≡ false → is_low u ≡ false → ((u < 0xD800) ⊎ (0xDFFF < u)) × (is_single u ≡ true)
single-from u fits no_high no_low = ⊎_elim
    (λ below. (inl below, low-is_single u below))
    (λ from. let above : 0xDFFF < u = grind (arith, nat_tests) in (inr above, high-is_single u (omega arith) (omega arith)))
    (cases_lt u 0xD800)

after_starter : least_after 255 ≡ 1
unfolding least_after
after_starter = refl

-- no character ends with a high surrogate
last-unpaired : (u : ℕ) (us : List ℕ) (n : ℕ) → (unpaired_step u).is_error ≡ false → suc n ≡ (unpaired_step u).width → is_high (get_or (u ∷ us) n 0) ≡ false
last-unpaired u us n = unpaired-cases (λ s. s.is_error ≡ false → suc n ≡ s.width → is_high (get_or (u ∷ us) n 0) ≡ false) u
    (λ single right is. let none : n ≡ 0 = omega arith in ap (λ i. is_high (get_or (u ∷ us) i 0)) none ∙ no_high-single u single)
    (λ wrong right is. absurd (true≢false right))

last-no_high : (us : List ℕ) (n : ℕ) → 0 < length us → (first_of_utf16 us).is_error ≡ false → suc n ≡ (first_of_utf16 us).width → is_high (get_or us n 0) ≡ false
last-no_high [] n some right is = absurd (omega arith)
last-no_high (u ∷ []) n some right is = last-unpaired u [] n right is
last-no_high (u ∷ v ∷ us) n some right is = cases (λ s. s.is_error ≡ false → suc n ≡ s.width → is_high (get_or (u ∷ v ∷ us) n 0) ≡ false) u v us
    (λ pair right is. let one : n ≡ 1 = omega arith in ap (λ i. is_high (get_or (u ∷ v ∷ us) i 0)) one ∙ no_high-low v (and_parts _ _ pair).1)
    (λ other. last-unpaired u (v ∷ us) n)
    right is

-- ---- within a group

-- the units before the place pass, and no low surrogate is next in the group
pub record IsApart (bytes units : List ℕ) (to end least : ℕ) : Type 0 where
  pub passes : PassesTo Encoding.Utf16 bytes units end least
  pub next : end < to → is_low (get_or units end 0) ≡ false

-- the units before another place pass, and at that one is a high surrogate, with which only starters begin that pass
pub record IsOpen (bytes units : List ℕ) (from to end least : ℕ) : Type 0 where
  pub place : ℕ
  pub before : ℕ
  pub passes : PassesTo Encoding.Utf16 bytes units place before
  pub one_byte : before ≤ 255
  pub behind : from ≤ place
  pub after : end ≡ place + 1
  pub inside : end ≤ to
  pub high : is_high (get_or units place 0) ≡ true
  pub all : (k : ℕ) → k < 1024 → byte_of bytes (0x10000 + (get_or units place 0 - 0xD800) * 1024 + k) ≡ 255
  pub least_is : least ≡ 1

pub record IsInGroup (bytes units : List ℕ) (from to end least : ℕ) : Type 0 where
  pub behind : from ≤ end
  pub at : IsApart bytes units to end least ⊎ IsOpen bytes units from to end least

pub IsInGroup-some : (bytes units : List ℕ) (from to end least : ℕ) → IsInGroup bytes units from to end least → 0 < least
IsInGroup-some bytes units from to end least within = ⊎_elim
    (λ apart. PassesTo-least Encoding.Utf16 bytes units end least apart.passes)
    (λ pair. omega (arith, pair.least_is))
    within.at

module _ (bytes units : List ℕ) (from to : ℕ) (paired : ArePaired units from to) (room : to ≤ length units) where
  pub IsInGroup-start : (least : ℕ) → PassesTo Encoding.Utf16 bytes units from least → IsInGroup bytes units from to from least
  IsInGroup-start least passes = record { behind = omega arith; at = inl (record { passes = passes; next = λ _. paired.first }) }

  -- no pair is open at its end
  pub PassesTo-end : (end least : ℕ) → IsInGroup bytes units from to end least → to ≤ end → PassesTo Encoding.Utf16 bytes units end least
  PassesTo-end end least within past = ⊎_elim
      (λ apart. apart.passes)
      (λ pair. absurd (true≢false (sym pair.high ∙ paired.last pair.place (omega arith))))
      within.at

  -- one character more
  apart-more : (end least : ℕ) → from ≤ end → PassesTo Encoding.Utf16 bytes units end least → (byte width : ℕ) → end < length units → IsByteAt Encoding.Utf16 bytes units end byte width → least ≤ byte
      → IsInGroup bytes units from to (end + width) (least_after byte)
  apart-more end least behind passes byte width inside is enough =
      let some = PassesTo-least Encoding.Utf16 bytes units end least passes in
      let s = first_of_utf16 (drop end units) in
      let known = is (omega arith) in
      let rest : 0 < length (drop end units) = omega (arith, length-drop end units) in
      let positive = IsDecoding-utf16.some (drop end units) rest in
      let last : is_high (get_or units (end + (width - 1)) 0) ≡ false = sym (ap is_high (get_or-drop end units (width - 1) 0)) ∙ last-no_high (drop end units) (width - 1) rest known.0 (omega (arith, known.1)) in
      record {
        behind = omega arith;
        at = inl (record {
          passes = PassesTo-more Encoding.Utf16 bytes units end least byte width passes inside enough is;
          next = λ less.
              let place : end + (width - 1) + 1 ≡ end + width = omega (arith, known.1) in
              ap (λ i. is_low (get_or units i 0)) (sym place) ∙ paired.next (end + (width - 1)) (omega arith) (omega (arith, known.1)) ∙ last;
        });
      }

  module _ (end least byte : ℕ) (within : IsInGroup bytes units from to end least) (less : end < to) (is : IsByteOfUnit bytes (get_or units end 0) byte) (fits : get_or units end 0 < 0x10000) where
    -- the low one of an open pair
    low-next : (pair : IsOpen bytes units from to end least) → is_low (get_or units end 0) ≡ true
    low-next pair = ap (λ i. is_low (get_or units i 0)) pair.after ∙ paired.next pair.place pair.behind (omega arith) ∙ pair.high

    -- a unit that doesn't pass by itself is the first of its character
    pub PassesTo-other : byte < least → PassesTo Encoding.Utf16 bytes units end least
    PassesTo-other fails = ⊎_elim
        (λ apart. apart.passes)
        (λ pair. let bounds = low-bounds (get_or units end 0) (low-next pair) in absurd (omega (arith, is.low bounds.0 bounds.1)))
        within.at

    pub IsInGroup-character : byte < least → (other width : ℕ) → IsByteAt Encoding.Utf16 bytes units end other width → least ≤ other → IsInGroup bytes units from to (end + width) (least_after other)
    IsInGroup-character fails other width at enough = apart-more end least within.behind (PassesTo-other fails) other width (omega arith) at enough

    -- or it passes by itself
    pub IsInGroup-unit : least ≤ byte → least ≤ 255 → IsInGroup bytes units from to (end + 1) (least_after byte)
    IsInGroup-unit enough one_byte = ⊎_elim
        (λ apart.
        let some = PassesTo-least Encoding.Utf16 bytes units end least apart.passes in
        let u = get_or units end 0 in
        ⊎_elim
        (λ high.
        let bounds = high-bounds u high in
        let whole = is.high bounds.0 bounds.1 (omega arith) in
        record {
          behind = omega arith;
          at = inr (record {
            place = end;
            before = least;
            passes = apart.passes;
            one_byte = one_byte;
            behind = within.behind;
            after = refl;
            inside = omega arith;
            high = high;
            all = whole.1;
            least_is = ap least_after whole.0 ∙ after_starter;
          });
        })
        (λ no_high.
        let kind = single-from u fits no_high (apart.next less) in
        let first = first-alone units end (omega arith) kind.1 in
        apart-more end least within.behind apart.passes byte 1 (omega arith)
        (λ _. (ap (λ s. s.is_error) first, ap (λ s. s.width) first, ap (λ s. byte_of bytes s.character) first ∙ sym (is.single kind.0))) enough)
        (cases_Bool (is_high u)))
        (λ pair.
        let high = get_or units pair.place 0 in
        let low = get_or units end 0 in
        let trail = low-next pair in
        let bounds = low-bounds low trail in
        let starter = is.low bounds.0 bounds.1 in
        let lead = high-bounds high pair.high in
        let first = first-of_pair units pair.place (omega arith) pair.high (ap (λ i. is_low (get_or units i 0)) (sym pair.after) ∙ trail) in
        let value : pair_value high (get_or units (pair.place + 1) 0) ≡ 0x10000 + (high - 0xD800) * 1024 + (low - 0xDC00) = ap (λ i. pair_value high (get_or units i 0)) (sym pair.after) in
        let byte_is = ap (byte_of bytes) value ∙ pair.all (low - 0xDC00) (omega arith) ∙ sym starter in
        let whole : pair.place + 2 ≡ end + 1 = omega arith in
        subst (λ n. IsInGroup bytes units from to n (least_after byte)) whole
        (apart-more pair.place pair.before pair.behind pair.passes byte 2 (omega arith)
        (λ _. (ap (λ s. s.is_error) first, ap (λ s. s.width) first, ap (λ s. byte_of bytes s.character) first ∙ byte_is)) (omega arith)))
        within.at
