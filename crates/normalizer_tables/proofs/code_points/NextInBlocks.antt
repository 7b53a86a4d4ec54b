-- The next word with other bits than these, in blocks.
use Rattle.std.proofs.Common.{ap₂, ◌/◌, ◌%◌, ◌≡◌, ◌≢◌, ℕ, ◌+◌, ◌-◌, ◌*◌, ◌<◌, ◌≤◌, List, get_or, bit_and, Option, Some, None, true, nat_eq, inl, inr, arith, refl, ap, sym, subst, ◌∙◌}
use Rattle.std.proofs.lemmas.Bool.{cases_lt, eqb-true}
use Rattle.std.specs.Option.{option_eq, IfSome}
use Rattle.normalizer_tables.specs.Table.{Table, Block, block_places}
use Rattle.normalizer_tables.specs.inner.Blocks.{block_at, stored_words}
use Rattle.normalizer_tables.specs.Table.{word_at, code_points, HaveBits, IsNextOther}
use Rattle.normalizer_tables.proofs.code_points.BlockLemmas.{get_or-stored_words}

-- of the bits of the mask, all words of the block have these
abbrev pub HasBits : ℕ → ℕ → Block → Type 0
HasBits mask bits block = (j : ℕ) → j < 64 → bit_and (get_or block j 0) mask ≡ bits

-- what holds of a passed number holds of one that is equal to it
pub passed-at : (P : ℕ → Type 0) (passed : Option ℕ) (number : ℕ) → true ≡ option_eq nat_eq passed (Some number) → IfSome passed P → P number
passed-at P None number h p = cc
passed-at P (Some k) number h p = subst P (eqb-true k number (sym h)) p

module _ (blocks : List Block) (numbers words : List ℕ) (are : stored_words blocks numbers ≡ words) (mask bits from place : ℕ) (low : place < block_places)
    (block : Block) (is : block ≡ block_at blocks numbers place) (above : ℕ) where
  abbrev table : Table
  table = record { words = words; past = above }

  word_in_place : (j : ℕ) → j < 64 → word_at table (place * 64 + j) ≡ get_or block j 0
  unfolding word_at code_points
  word_in_place j below =
      let at : (place * 64 + j) / 64 ≡ place = omega arith in
      let offset : (place * 64 + j) % 64 ≡ j = omega arith in
      ap (λ ws. get_or ws (place * 64 + j) above) (sym are) ∙ get_or-stored_words blocks numbers (place * 64 + j) above (omega arith)
      ∙ ap₂ (λ p o. get_or (block_at blocks numbers p) o 0) at offset ∙ ap (λ b. get_or b j 0) (sym is)

  -- if no word of the block up to a place is one, that place is reached
  pub HaveBits-to : (to end : ℕ) → to ≤ 64 → end ≡ place * 64 + to → HaveBits table mask bits from (place * 64)
      → ((j : ℕ) → j < to → from ≤ place * 64 + j → bit_and (get_or block j 0) mask ≡ bits) → HaveBits table mask bits from end
  unfolding HaveBits
  HaveBits-to to end within ends none here n on below = elim (cases_lt n (place * 64)) [
    | inl before ↦ none n on before
    | inr after ↦
        let there : place * 64 + (n - place * 64) ≡ n = omega arith in
        ap (λ m. bit_and (word_at table m) mask) (sym there) ∙ ap (λ w. bit_and w mask) (word_in_place (n - place * 64) (omega arith)) ∙ here (n - place * 64) (omega arith) (omega arith)
  ]

  -- the first place of its block that has one is the next
  pub next-found : (j w : ℕ) → j < 64 → get_or block j 0 ≡ w → from ≤ place * 64 + j → HaveBits table mask bits from (place * 64) → ((i : ℕ) → i < j → from ≤ place * 64 + i → bit_and (get_or block i 0) mask ≡ bits)
      → bit_and w mask ≢ bits → IsNextOther table mask bits from (Some (place * 64 + j, w))
  unfolding IsNextOther code_points
  next-found j w below word on none here some = (on, omega arith, word_in_place j below ∙ word, some, HaveBits-to j _ (omega arith) refl none here)
