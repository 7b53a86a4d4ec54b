-- The bytes of 16-bit units.
use Rattle.std.proofs.Common.{◌≡◌, ℕ, ◌+◌, ◌-◌, ◌*◌, ◌/◌, ◌%◌, ◌<◌, ◌≤◌, ◌⊎◌, ◌++◌, ◌∷◌, List, [], length, get_or, replicate, arith, refl, ap, sym, subst, ◌∙◌, inl, inr}
use Rattle.std.proofs.Math.ListN.{get_or-eq_default}
use Rattle.std.proofs.lemmas.Bool.{cases_lt}
use Rattle.std.proofs.lemmas.List.{get_or_push, get_or_append_left, length_push, get_or-replicate, length-replicate}
use Rattle.std.proofs.lemmas.List.Elements.{All-from_get_or}
use Rattle.normalizer_passing.specs.PassBytes.{byte_in, byte_of, AreNumbers, IsByteOfUnit}
use Rattle.normalizer_passing.specs.inner.Kept.{all_bytes, byte_at, AreBlocks, AreOfHigh, AreUnits, HasStarters, IsLonger, IsPut}
use Rattle.normalizer_passing.proofs.ByteLemmas.{byte_of-all, all_bytes-longer, number-within}

-- of 64 high surrogates those below a place have their bytes, and the others 0
pub record AreOfHighTo (numbers : List ℕ) (place : ℕ) (block : List ℕ) (offset : ℕ) : Type 0 where
  pub long : length block ≡ 64
  pub done : (j : ℕ) → j < offset → 0 < get_or block j 0 → (get_or block j 0 ≡ 255) × HasStarters numbers (1024 + (64 * place + j) * 16)
  pub left : (j : ℕ) → offset ≤ j → get_or block j 0 ≡ 0

pub AreOfHighTo-none : (numbers : List ℕ) (place : ℕ) → AreOfHighTo numbers place (replicate 64 0) 0
AreOfHighTo-none numbers place = record {
  long = length-replicate {A = ℕ} 64 0;
  done = λ j below. absurd (omega arith);
  left = λ j from. elim (cases_lt j 64) [
    | inl within ↦ get_or-replicate 64 j 0 0 within
    | inr past ↦ get_or-eq_default (replicate 64 0) 0 {n = j} (omega (arith, length-replicate {A = ℕ} 64 0))
  ];
}

-- the bytes of the units of the first places, of which blocks may have been added
pub record AreUnitsTo (old : List (List ℕ)) (numbers : List ℕ) (new : List (List ℕ)) (place : ℕ) (units : List ℕ) : Type 0 where
  pub longer : IsLonger old new
  pub long : length units ≡ place
  pub within : (k : ℕ) → k < place → get_or units k 0 < length new
  pub bytes : (unit : ℕ) → unit < 64 * place → IsByteOfUnit (all_bytes old numbers) unit (byte_in new units unit)

module _ (old : List (List ℕ)) (numbers : List ℕ) (are : AreBlocks old) (given : AreNumbers old numbers) where
  -- the byte of each unit of a place by the block of a number
  abbrev pub AreOfPlace : (blocks : List (List ℕ)) (place number : ℕ) → Type 0
  AreOfPlace blocks place number = (j : ℕ) → j < 64 → IsByteOfUnit (all_bytes old numbers) (64 * place + j) (byte_at blocks number j)

  of_single : (new : List (List ℕ)) → IsLonger old new → (place : ℕ) → place < 1024 → (place < 0x360) ⊎ (0x37F < place) → AreOfPlace new place (get_or numbers place 0)
  unfolding byte_in
  of_single new more place low apart j below = record {
    single = λ _.
        let d : (64 * place + j) / 64 ≡ place = omega arith in
        let m : (64 * place + j) % 64 ≡ j = omega arith in
        ap (λ b. get_or b j 0) (more.earlier (get_or numbers place 0) (number-within old numbers place (let t = are.two in omega arith) given.within))
        ∙ sym (byte_of-all old numbers (64 * place + j) (omega arith) ∙ rw (d, m) refl);
    high = λ from to some. absurd (elim apart [ inl before ↦ omega arith | inr after ↦ omega arith ]);
    low = λ from to. absurd (elim apart [ inl before ↦ omega arith | inr after ↦ omega arith ]);
  }

  of_low : (new : List (List ℕ)) → AreBlocks new → (place : ℕ) → 0x370 ≤ place → place ≤ 0x37F → AreOfPlace new place 1
  of_low new blocks place from to j below = record {
    single = λ apart. absurd (elim apart [ inl before ↦ omega arith | inr after ↦ omega arith ]);
    high = λ above until some. absurd (omega arith);
    low = λ above until. blocks.starters j below;
  }

  -- the characters that a high surrogate begins
  all_start : (first : ℕ) → HasStarters numbers (1024 + first * 16) → first < 1024 → (k : ℕ) → k < 1024 → byte_of (all_bytes old numbers) (0x10000 + first * 1024 + k) ≡ 255
  unfolding byte_in
  all_start first start low k below =
      let n = 0x10000 + first * 1024 + k in
      let d : n / 64 ≡ 1024 + first * 16 + k / 64 = omega arith in
      byte_of-all old numbers n (omega arith) ∙ ap (λ p. byte_at old (get_or numbers p 0) (n % 64)) d ∙ ap (λ p. byte_at old p (n % 64)) (start (k / 64) (omega arith)) ∙ are.starters (n % 64) (omega arith)

  of_high : (new : List (List ℕ)) (place : ℕ) (block : List ℕ) (number : ℕ) (before : List (List ℕ)) → 0x360 ≤ place → place < 0x370 → AreOfHigh numbers (place - 0x360) block → IsPut before block new number
      → AreOfPlace new place number
  unfolding AreOfHigh
  of_high new place block number before from to high put j below = record {
    single = λ apart. absurd (elim apart [ inl before ↦ omega arith | inr after ↦ omega arith ]);
    high = λ above until some.
        let is = put.less j some in
        let start = high j below (omega arith) in
        let first : 64 * place + j - 0xD800 ≡ 64 * (place - 0x360) + j = omega arith in
        (is ∙ start.0, λ k within. rw first (all_start (64 * (place - 0x360) + j) start.1 (omega arith) k within));
    low = λ above until. absurd (omega arith);
  }

  -- one more place
  module _ (blocks : List (List ℕ)) (place : ℕ) (units : List ℕ) (low : place < 1024) (so_far : AreUnitsTo old numbers blocks place units) where
    pub AreUnitsTo-more : (new : List (List ℕ)) (number : ℕ) → IsLonger blocks new → number < length new → AreOfPlace new place number → AreUnitsTo old numbers new (place + 1) (units ++ number ∷ [])
    unfolding byte_in
    AreUnitsTo-more new number more inside of_place = record {
      longer = record {
        blocks = more.blocks;
        longer = (let l = so_far.longer.longer in let m = more.longer in omega arith);
        earlier = λ k below. more.earlier k (let l = so_far.longer.longer in omega arith) ∙ so_far.longer.earlier k below;
      };
      long = omega (arith, length_push units number, so_far.long);
      within = λ k below. elim (cases_lt k place) [
        | inl earlier ↦ rw (get_or_append_left units (number ∷ []) 0 k (let l = so_far.long in omega arith)) (let w = so_far.within k earlier in let m = more.longer in omega arith)
        | inr last ↦ rw (get_or_push units number 0 k (let l = so_far.long in omega arith)) inside
      ];
      bytes = λ unit below. elim (cases_lt (unit / 64) place) [
        | inl earlier ↦
            rw (get_or_append_left units (number ∷ []) 0 (unit / 64) (let l = so_far.long in omega arith), more.earlier (get_or units (unit / 64) 0) (so_far.within (unit / 64) earlier))
            (so_far.bytes unit (omega arith))
        | inr last ↦
            let whole : 64 * place + unit % 64 ≡ unit = omega arith in
            rw (get_or_push units number 0 (unit / 64) (let l = so_far.long in omega arith))
            (subst (λ u. IsByteOfUnit (all_bytes old numbers) u (byte_at new number (unit % 64))) whole (of_place (unit % 64) (omega arith)))
      ];
    }

    pub more-single : (place < 0x360) ⊎ (0x37F < place) → AreUnitsTo old numbers blocks (place + 1) (units ++ get_or numbers place 0 ∷ [])
    more-single apart = AreUnitsTo-more blocks (get_or numbers place 0) (record { blocks = so_far.longer.blocks; longer = omega arith; earlier = λ k below. refl })
        (let inside = number-within old numbers place (let t = are.two in omega arith) given.within in let l = so_far.longer.longer in omega arith)
        (of_single blocks so_far.longer place low apart)

    pub more-low : 0x370 ≤ place → place ≤ 0x37F → AreUnitsTo old numbers blocks (place + 1) (units ++ 1 ∷ [])
    more-low from to = AreUnitsTo-more blocks 1 (record { blocks = so_far.longer.blocks; longer = omega arith; earlier = λ k below. refl }) (let t = so_far.longer.blocks.two in omega arith)
        (of_low blocks so_far.longer.blocks place from to)

    pub more-high : (new : List (List ℕ)) (block : List ℕ) (number : ℕ) → 0x360 ≤ place → place < 0x370 → AreOfHigh numbers (place - 0x360) block → IsPut blocks block new number
        → AreUnitsTo old numbers new (place + 1) (units ++ number ∷ [])
    more-high new block number from to high put = AreUnitsTo-more new number put.longer put.within (of_high new place block number blocks from to high put)

  -- so all units have theirs
  pub AreUnits-all : (new : List (List ℕ)) (units : List ℕ) → AreUnitsTo old numbers new 1024 units → AreUnits new numbers units
  AreUnits-all new units all = record {
    long = all.long;
    within = All-from_get_or (λ k. k < length new) units 0 (λ k below. all.within k (let l = all.long in omega arith));
    bytes = λ unit below. subst (λ b. IsByteOfUnit b unit (byte_in new units unit)) (sym (all_bytes-longer old new numbers (let t = are.two in omega arith) all.longer given.within)) (all.bytes unit (omega arith));
  }
