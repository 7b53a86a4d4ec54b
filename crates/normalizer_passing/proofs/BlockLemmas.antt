-- How the bytes of characters are made.
use Rattle.std.proofs.Common.{◌≡◌, ℕ, ◌/◌, ◌%◌, ◌<◌, ◌⊎◌, ◌++◌, ◌∷◌, List, [], length, get_or, set, replicate, arith, ap, refl, sym, subst, ◌∙◌, inl, inr}
use Rattle.std.proofs.Math.ListN.{get_or-eq_default}
use Rattle.std.proofs.lemmas.Bool.{cases_lt, cases_eq}
use Rattle.std.proofs.lemmas.List.{get_or-set_same, get_or-set_other, length-set, get_or-replicate, length-replicate}
use Rattle.std.proofs.lemmas.List.Elements.{All-from_get_or, All-get_or, All-weaker}
use Rattle.normalizer_passing.specs.PassBytes.{byte_in, byte_of, AreNumbers}
use Rattle.normalizer_passing.specs.inner.Kept.{all_bytes, byte_at, AreAmong, AreBlocks, ArePut, HasNoSurrogate, IsLess, IsLessBy, IsLonger}
use Rattle.normalizer_passing.proofs.ByteLemmas.{byte_in-longer, byte_of-all, code_point}

get_or-all_alike : (byte place : ℕ) → place < 64 → get_or (replicate 64 byte) place 0 ≡ byte
get_or-all_alike byte place below = get_or-replicate 64 place byte 0 below

-- the blocks that are always there
pub AreBlocks-first : AreBlocks (([] ++ replicate 64 0 ∷ []) ++ replicate 64 255 ∷ [])
AreBlocks-first = record {
  two = omega arith;
  most = omega arith;
  stops = λ place. elim (cases_lt place 64) [
    | inl within ↦ get_or-all_alike 0 place within
    | inr past ↦ get_or-eq_default (replicate 64 0) 0 {n = place} (omega (arith, length-replicate {A = ℕ} 64 0))
  ];
  starters = get_or-all_alike 255;
}

-- the numbers of all places are those of blocks, by which no more passes
module _ (given : List (List ℕ)) (numbers : List ℕ) (of_given : AreNumbers given numbers) (blocks : List (List ℕ)) (places among : List ℕ)
    (put : ArePut given blocks (length given) places) (are : AreAmong places numbers 17408 among) where
  number-given : (place : ℕ) → place < 17408 → get_or numbers place 0 < length given
  number-given place low = All-get_or (λ k. k < length given) numbers place 0 (let l = of_given.long in omega arith) of_given.within

  -- the number of a place is that of its block, or that of the block in which all stops
  number-among : (place : ℕ) → place < 17408 → (get_or among place 0 ≡ get_or places (get_or numbers place 0) 0) ⊎ (get_or among place 0 ≡ 0)
  number-among place low = elim (cases_lt place 0x360) [
    | inl before ↦ inl (are.others place low (inl before))
    | inr from ↦ elim (cases_lt 0x37F place) [
      | inl after ↦ inl (are.others place low (inr after))
      | inr to ↦ inr (are.surrogates place low from to)
    ]
  ]

  pub AreNumbers-among : AreNumbers blocks among
  AreNumbers-among = record {
    long = are.long;
    within = All-from_get_or (λ k. k < length blocks) among 0 (λ place below.
        let low : place < 17408 = (let l = are.long in omega arith) in
        elim (number-among place low) [
          | inl same ↦ rw same (put.each (get_or numbers place 0) (number-given place low))
          | inr stops ↦ rw stops (let t = put.blocks.two in omega arith)
        ]);
  }

  stops-at : (n : ℕ) → get_or among (n / 64) 0 ≡ 0 → byte_in blocks among n ≡ 0
  unfolding byte_in
  stops-at n is = ap (λ k. byte_at blocks k (n % 64)) is ∙ put.blocks.stops (n % 64)

  less-at : (n : ℕ) → get_or numbers (n / 64) 0 < length given → get_or among (n / 64) 0 ≡ get_or places (get_or numbers (n / 64) 0) 0 → 0 < byte_in blocks among n → byte_in blocks among n ≡ byte_in given numbers n
  unfolding byte_in
  less-at n inside here some =
      ap (λ k. byte_at blocks k (n % 64)) here ∙ put.less (get_or numbers (n / 64) 0) inside (n % 64) (subst (λ k. 0 < byte_at blocks k (n % 64)) here some)

  IsLess-among : IsLess (byte_in given numbers) (byte_in blocks among)
  IsLess-among n some = elim (cases_lt (n / 64) 17408) [
    | inl low ↦ elim (number-among (n / 64) low) [
      | inl same ↦ less-at n (number-given (n / 64) low) same some
      | inr stops ↦ absurd (omega (arith, stops-at n stops))
    ]
    | inr past ↦ absurd (omega (arith, stops-at n (get_or-eq_default among 0 {n = n / 64} (let l = are.long in omega arith))))
  ]

  -- with further blocks
  module _ (more : List (List ℕ)) (longer : IsLonger blocks more) where
    pub AreNumbers-kept : AreNumbers more among
    AreNumbers-kept = record {
      long = are.long;
      within = All-weaker (λ k. k < length blocks) (λ k. k < length more) (λ k within. let l = longer.longer in omega arith) among AreNumbers-among.within;
    }

    byte_in-kept : (n : ℕ) → byte_in more among n ≡ byte_in blocks among n
    byte_in-kept = byte_in-longer blocks more among (let t = put.blocks.two in omega arith) longer AreNumbers-among.within

    pub HasNoSurrogate-kept : HasNoSurrogate more among
    HasNoSurrogate-kept n from to = byte_in-kept n ∙ stops-at n (are.surrogates (n / 64) (omega arith) (omega arith) (omega arith))

    pub byte_of-kept : (before : ℕ → ℕ) → IsLess before (byte_in given numbers) → (n : ℕ) → 0 < byte_of (all_bytes more among) n → (n < 0x110000) × (byte_of (all_bytes more among) n ≡ before n)
    byte_of-kept before less n some =
        let within = code_point more among n some in
        let is = byte_of-all more among n within ∙ byte_in-kept n in
        let as_given = IsLess-among n (omega (arith, is)) in
        (within, is ∙ as_given ∙ less n (omega (arith, is, as_given)))

    pub stopped-kept : (n : ℕ) → byte_in given numbers n ≡ 0 → byte_of (all_bytes more among) n ≡ 0
    stopped-kept n stops = elim (cases_lt 0 (byte_of (all_bytes more among) n)) [
      | inl some ↦ (let is = byte_of-kept (byte_in given numbers) (λ n some. refl) n some in is.1 ∙ stops)
      | inr none ↦ omega arith
    ]

-- a byte that is put to 0
get_or-stopped : (block : List ℕ) (place : ℕ) → get_or (set block place 0) place 0 ≡ 0
get_or-stopped block place = elim (cases_lt place (length block)) [
  | inl within ↦ get_or-set_same block place 0 0 within
  | inr past ↦ get_or-eq_default (set block place 0) 0 {n = place} (omega (arith, length-set block place 0))
]

-- a block in which one byte is put to 0 has no other that differs
IsLess-stopped : (block : List ℕ) (place : ℕ) → IsLess (λ k. get_or block k 0) (λ k. get_or (set block place 0) k 0)
IsLess-stopped block place k some = elim (cases_eq k place) [
  | inl same ↦ absurd (omega (arith, ap (λ j. get_or (set block place 0) j 0) same, get_or-stopped block place))
  | inr other ↦ get_or-set_other block place k 0 0 other
]

-- a character stops whose byte is put to 0 in its block
module _ (before : ℕ → ℕ) (blocks : List (List ℕ)) (numbers : List ℕ) (less : IsLessBy before blocks numbers) (n : ℕ) (low : n < 0x110000) where
  abbrev pub after : List (List ℕ)
  after = set blocks (get_or numbers (n / 64) 0) (set (get_or blocks (get_or numbers (n / 64) 0) []) (n % 64) 0)

  here : get_or after (get_or numbers (n / 64) 0) [] ≡ set (get_or blocks (get_or numbers (n / 64) 0) []) (n % 64) 0
  here = get_or-set_same blocks (get_or numbers (n / 64) 0) _ [] (All-get_or (λ k. k < length blocks) numbers (n / 64) 0 (let l = less.numbered.long in omega arith) less.numbered.within)

  IsLess-after : IsLess (byte_in blocks numbers) (byte_in after numbers)
  unfolding byte_in
  IsLess-after k some = elim (cases_eq (get_or numbers (k / 64) 0) (get_or numbers (n / 64) 0)) [
    | inl same ↦
        let is : get_or after (get_or numbers (k / 64) 0) [] ≡ set (get_or blocks (get_or numbers (n / 64) 0) []) (n % 64) 0 = rw same here in
        ap (λ b. get_or b (k % 64) 0) is ∙ IsLess-stopped (get_or blocks (get_or numbers (n / 64) 0) []) (n % 64) (k % 64) (rw (← is) some) ∙ ap (λ j. byte_at blocks j (k % 64)) (sym same)
    | inr other ↦ ap (λ b. get_or b (k % 64) 0) (get_or-set_other blocks (get_or numbers (n / 64) 0) (get_or numbers (k / 64) 0) _ [] other)
  ]

  pub IsLessBy-after : IsLessBy before after numbers
  IsLessBy-after = record {
    numbered = record { long = less.numbered.long; within = rw (length-set blocks (get_or numbers (n / 64) 0) (set (get_or blocks (get_or numbers (n / 64) 0) []) (n % 64) 0)) less.numbered.within };
    less = λ k some. let is = IsLess-after k some in is ∙ less.less k (omega (arith, is));
  }

  pub stopped-after : byte_in after numbers n ≡ 0
  unfolding byte_in
  stopped-after = ap (λ b. get_or b (n % 64) 0) here ∙ get_or-stopped (get_or blocks (get_or numbers (n / 64) 0) []) (n % 64)

  -- what stopped still does
  pub still_stopped : (k : ℕ) → byte_in blocks numbers k ≡ 0 → byte_in after numbers k ≡ 0
  still_stopped k stops = elim (cases_lt 0 (byte_in after numbers k)) [
    | inl passes ↦ absurd (omega (arith, IsLess-after k passes, stops))
    | inr none ↦ omega arith
  ]
