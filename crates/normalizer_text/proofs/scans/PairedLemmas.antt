-- Surrogates in a group of units, by masks.
use Rattle.std.proofs.Common.{◌≡◌, ℕ, suc, ◌+◌, ◌-◌, ◌*◌, ◌/◌, ◌%◌, ◌^◌, ◌<◌, ◌≤◌, Bool, true, false, cond, eqb, List, [], ◌∷◌, length, map, replicate, get_or, take, drop, ◌++◌, arith, refl, ap, ap₂, subst, sym, ◌∙◌, ⊎_elim}
use Rattle.std.proofs.Math.Nat.{pow-suc}
use Rattle.std.proofs.lemmas.Bool.{cases_Bool}
use Rattle.std.proofs.lemmas.Bool.Decides.{nat_tests}
use Rattle.std.proofs.lemmas.List.{get_or-map, get_or_append_left, length-append, length-map}
use Rattle.std.proofs.lemmas.Simd.{bit_mask_l, bitmask_splat, get_or-chunk, length-chunk, map-map, mask_l-lt, zip2_splat}
use lib.Lanes.{mask_l, top, zip2}
use mir.Syntax.{w16}
use Rattle.normalizer_text.specs.Utf16.{is_high, is_low}
use Rattle.normalizer_text.specs.inner.Groups.{ArePaired}

-- ---- a mask of the surrogates of a kind

map-is : (f g : ℕ → Bool) → ((x : ℕ) → f x ≡ g x) → (xs : List ℕ) → map f xs ≡ map g xs
map-is f g same [] = refl
map-is f g same (x ∷ xs) = rw (same x, map-is f g same xs) refl

-- a unit with these first six bits
pub mask-by_kind : (kind : ℕ) (test : ℕ → Bool) → ((u : ℕ) → eqb (u / 2 ^ 10) kind ≡ test u) → (v : List ℕ) → length v ≡ 8
    → mask_l (map (top 15) (zip2 (λ a b. cond (eqb a b) 65535 0) (zip2 (λ a b. a / 2 ^ b) v (replicate 8 10)) (replicate 8 kind))) % 2 ^ 64 ≡ mask_l (map test v)
mask-by_kind kind test same v long =
    let kinds : zip2 (λ a b. a / 2 ^ b) v (replicate 8 10) ≡ map (λ u. u / 2 ^ 10) v = zip2_splat (λ a b. a / 2 ^ b) v 8 10 long in
    ap (λ l. mask_l (map (top 15) (zip2 (λ a b. cond (eqb a b) 65535 0) l (replicate 8 kind))) % 2 ^ 64) kinds
    ∙ bitmask_splat w16 eqb (map (λ u. u / 2 ^ 10) v) 8 kind (length-map v (λ u. u / 2 ^ 10) ∙ long) (omega arith)
    ∙ ap mask_l (map-map (λ k. eqb k kind) (λ u. u / 2 ^ 10) v ∙ map-is _ test same v)

pub kind-high : (u : ℕ) → eqb (u / 2 ^ 10) 54 ≡ is_high u
kind-high u = grind (arith, nat_tests)

pub kind-low : (u : ℕ) → eqb (u / 2 ^ 10) 55 ≡ is_low u
kind-low u = grind (arith, nat_tests)

-- ---- a mask that is another one, shifted

abbrev bit : Bool → ℕ
bit b = cond b 1 0

parity : (x y : Bool) (m n : ℕ) → bit x + 2 * m ≡ bit y + 2 * n → (x ≡ y) × (m ≡ n)
parity true true m n same = (refl, omega arith)
parity true false m n same = absurd (omega arith)
parity false true m n same = absurd (omega arith)
parity false false m n same = (refl, omega arith)

mask_l-inj : (a b : List Bool) → length a ≡ length b → mask_l a ≡ mask_l b → a ≡ b
mask_l-inj [] [] long same = refl
mask_l-inj [] (y ∷ b) long same = absurd (omega arith)
mask_l-inj (x ∷ a) [] long same = absurd (omega arith)
mask_l-inj (x ∷ a) (y ∷ b) long same =
    let parts = parity x y (mask_l a) (mask_l b) same in
    ap₂ (λ c l. c ∷ l) parts.0 (mask_l-inj a b (omega arith) parts.1)

-- with one bit more at the top
mask_l-more : (a : List Bool) (d : Bool) → mask_l (a ++ d ∷ []) ≡ mask_l a + cond d (2 ^ length a) 0
mask_l-more [] true = refl
mask_l-more [] false = refl
mask_l-more (x ∷ a) true = omega (arith, mask_l-more a true, pow-suc 2 (length a))
mask_l-more (x ∷ a) false = omega (arith, mask_l-more a false)

-- ---- eight units at a place, by the masks of low and of high surrogates

no_low : (u : ℕ) → is_high u ≡ true → is_low u ≡ false
no_low u high = grind (arith, nat_tests)

module _ (units : List ℕ) (at low high : ℕ) (room : at + 8 ≤ length units)
    (is_low_mask : low ≡ mask_l (map is_low (take 8 (drop at units)))) (is_high_mask : high ≡ mask_l (map is_high (take 8 (drop at units)))) (shifted : low ≡ high * 2 % 256) where
  abbrev v : List ℕ
  v = take 8 (drop at units)

  abbrev lows : List Bool
  lows = map is_low v

  abbrev highs : List Bool
  highs = map is_high v

  long : (test : ℕ → Bool) → length (map test v) ≡ 8
  long test = length-map v test ∙ length-chunk at 8 units room

  at_unit : (test : ℕ → Bool) (k : ℕ) → k < 8 → get_or (map test v) k false ≡ test (get_or units (at + k) 0)
  at_unit test k less = get_or-map test v k 0 false (omega (arith, length-chunk at 8 units room)) ∙ ap test (get_or-chunk at 8 units k 0 less)

  top_bit : high / 128 ≡ bit (get_or highs 7 false)
  top_bit =
      let below : mask_l highs < 2 ^ 8 = subst (λ n. mask_l highs < 2 ^ n) (long is_high) (mask_l-lt highs) in
      omega (arith, below, bit_mask_l highs 7, is_high_mask)

  -- the low ones are the high ones, each one place further
  moved : lows ++ get_or highs 7 false ∷ [] ≡ false ∷ highs
  moved = mask_l-inj _ _ (omega (arith, length-append lows (get_or highs 7 false ∷ []), long is_low, long is_high)) (
      mask_l-more lows (get_or highs 7 false)
      ∙ ap (λ n. mask_l lows + cond (get_or highs 7 false) (2 ^ n) 0) (long is_low)
      ∙ by (get_or highs 7 false) top_bit)
    where
      by : (d : Bool) → high / 128 ≡ bit d → mask_l lows + cond d (2 ^ 8) 0 ≡ 0 + 2 * mask_l highs
      by true top = omega (arith, is_low_mask, is_high_mask, shifted, top)
      by false top = omega (arith, is_low_mask, is_high_mask, shifted, top)

  before : (k : ℕ) → k < 8 → is_low (get_or units (at + k) 0) ≡ get_or (false ∷ highs) k false
  before k less = sym (at_unit is_low k less) ∙ sym (get_or_append_left lows (get_or highs 7 false ∷ []) false k (omega (arith, long is_low))) ∙ ap (λ l. get_or l k false) moved

  follows : (k : ℕ) → suc k < 8 → is_low (get_or units (at + suc k) 0) ≡ is_high (get_or units (at + k) 0)
  follows k less = before (suc k) less ∙ at_unit is_high k (omega arith)

  ends : (top : Bool) → get_or highs 7 false ≡ top → (k : ℕ) → k + 1 ≡ at + (8 - bit top) → is_high (get_or units k 0) ≡ false
  ends true top k is =
      let last = sym (at_unit is_high 7 (omega arith)) ∙ top in
      let place : k ≡ at + 6 = omega arith in
      ap (λ i. is_high (get_or units i 0)) place ∙ sym (follows 6 (omega arith)) ∙ no_low (get_or units (at + 7) 0) last
  ends false top k is =
      let place : k ≡ at + 7 = omega arith in
      ap (λ i. is_high (get_or units i 0)) place ∙ sym (at_unit is_high 7 (omega arith)) ∙ top

  pub paired-by_masks : (0 < 8 - high / 128) × (8 - high / 128 ≤ 8) × ArePaired units at (at + (8 - high / 128))
  paired-by_masks =
      let top = get_or highs 7 false in
      let width : 8 - high / 128 ≡ 8 - bit top = ap (λ n. 8 - n) top_bit in
      let few : bit top ≤ 1 = ⊎_elim (λ e. omega (arith, ap bit e)) (λ e. omega (arith, ap bit e)) (cases_Bool top) in (
        omega arith,
        omega arith,
        subst (λ n. ArePaired units at (at + n)) (sym width) (record {
          first = subst (λ i. is_low (get_or units i 0) ≡ false) (let same : at + 0 ≡ at = omega arith in same) (before 0 (omega arith));
          next = λ k from less.
              let here : at + (k - at) ≡ k = omega arith in
              let there : at + suc (k - at) ≡ k + 1 = omega arith in
              ap (λ i. is_low (get_or units i 0)) (sym there) ∙ follows (k - at) (omega arith) ∙ ap (λ i. is_high (get_or units i 0)) here;
          last = ends top refl;
        }),
      )
