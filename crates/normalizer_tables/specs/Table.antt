-- A code point table: a word for every number.
use Rattle.std.specs.Prelude.{◌≡◌, ◌≢◌, ℕ, ◌<◌, ◌≤◌, List, Option, Some, None, slice_index_or, bit_and}
use Rattle.std.specs.Prelude.{◌*◌, map, nat_eq, slice_index}
use Rattle.std.specs.Cmp.Lexicographic.{pointwise}
use Rattle.std.specs.List.{range_with_len}
use Rattle.std.specs.Set.{distinct_count}

-- `words` are those of the numbers 0 to 0x10FFFF, `past` that of every number above
pub record Table : Type 0 where
  pub words : List ℕ
  pub past : ℕ

-- the word of a number
unfoldable pub word_at : Table → ℕ → ℕ
word_at t n = slice_index_or t.words n t.past

-- how many code points there are
unfoldable pub code_points : ℕ
code_points = 0x110000

-- of the bits of `mask`, the words of the code points from `from` on and below `to` have these
unfoldable pub HaveBits : Table → ℕ → ℕ → ℕ → ℕ → Type 0
HaveBits t mask bits from to = (n : ℕ) → from ≤ n → n < to → bit_and (word_at t n) mask ≡ bits

-- the least code point from `from` on whose word has others, with its word, or that none has others
unfoldable pub IsNextOther : Table → ℕ → ℕ → ℕ → Option (ℕ × ℕ) → Type 0
IsNextOther t mask bits from (Some (n, w)) =
    (from ≤ n) × (n < code_points) × (word_at t n ≡ w) × (bit_and w mask ≢ bits) × HaveBits t mask bits from n
IsNextOther t mask bits from None = HaveBits t mask bits from code_points

-- the words of 64 code points
abbrev pub Block : Type 0
Block = List ℕ

-- how many blocks the code points have
abbrev pub block_places : ℕ
block_places = 17408

-- the blocks of a table, in their order
unfoldable pub blocks_of : Table → List Block
blocks_of t = map (λ place. map (slice_index t.words) (range_with_len (64 * place) 64)) (range_with_len 0 block_places)

-- how many blocks a table has, equal ones counted once
unfoldable pub block_count : Table → ℕ
block_count t = distinct_count (pointwise nat_eq) (blocks_of t)
