-- How the words of a table are stored: in blocks of 64 code points each, equal blocks once.
use Rattle.std.specs.Prelude.{◌≡◌, ℕ, zero, suc, ◌+◌, ◌*◌, ◌/◌, ◌%◌, ◌≤◌, ◌<◌, List, [], ◌∷◌, ◌++◌, All, cond, length}
use Rattle.std.specs.Prelude.{Bool, ◌&&◌, map, nat_eq, nat_le, nat_lt, slice_index, slice_index_or}
use Rattle.std.specs.Cmp.Lexicographic.{pointwise}
use Rattle.std.specs.List.{position_or_len, range_with_len}
use Rattle.normalizer_tables.specs.Ranges.{WordRange, IsRangeList, word_in}
use Rattle.normalizer_tables.specs.Table.{Block, block_places, code_points}

-- the block at a place
unfoldable pub block_at : List Block → List ℕ → ℕ → Block
block_at blocks numbers place = slice_index_or blocks (slice_index numbers place) []

-- the word of a code point
unfoldable pub stored_word : List Block → List ℕ → ℕ → ℕ
stored_word blocks numbers n = slice_index (block_at blocks numbers (n / 64)) (n % 64)

-- the words of all code points
unfoldable pub stored_words : List Block → List ℕ → List ℕ
stored_words blocks numbers = map (stored_word blocks numbers) (range_with_len 0 code_points)

-- the words of the 64 code points of a place
abbrev pub block_of : List ℕ → ℕ → Block
block_of words place = map (slice_index words) (range_with_len (64 * place) 64)

-- the place of a block among those kept, or after them
abbrev pub number_in : List Block → Block → ℕ
number_in blocks block = position_or_len (pointwise nat_eq block) blocks

-- the blocks, with this one appended if it is none of them
abbrev pub joined_blocks : List Block → Block → List Block
joined_blocks blocks block = cond (nat_lt (number_in blocks block) (length blocks)) blocks (blocks ++ block ∷ [])

-- the number of the block among those kept, to which it is added if it is none of them
abbrev pub IsJoined : List Block → Block → List Block → ℕ → Type 0
IsJoined old block new number = (new ≡ joined_blocks old block) × (number ≡ number_in old block)

-- the blocks of the first places, each once, in the order of their first use
unfoldable pub blocks_to : List ℕ → ℕ → List Block
blocks_to words zero = []
blocks_to words (suc n) = joined_blocks (blocks_to words n) (block_of words n)

-- the numbers of the blocks of the first places
unfoldable pub numbers_to : List ℕ → ℕ → List ℕ
numbers_to words n = map (λ place. number_in (blocks_to words place) (block_of words place)) (range_with_len 0 n)

-- the words are stored in these blocks and these numbers
pub record IsStored (blocks : List Block) (numbers words : List ℕ) : Type 0 where
  pub in_blocks : blocks ≡ blocks_to words block_places
  pub in_order : numbers ≡ numbers_to words block_places

-- the range has a member, and ends within the code points
abbrev pub is_range : WordRange → Bool
is_range r = nat_le r.0 r.1 && nat_le r.1 0x10FFFF

-- ranges none of which ends before the number
pub record AreFrom (n : ℕ) (ranges : List WordRange) : Type 0 where
  pub list : IsRangeList ranges
  pub ends : All (λ r. n ≤ r.1) ranges

-- so do the remaining ones, and from the number on they have the words of all
pub record AreLeft (ranges : List WordRange) (n : ℕ) (left : List WordRange) : Type 0 where
  pub from : AreFrom n left
  pub words : (m : ℕ) → n ≤ m → word_in left m ≡ word_in ranges m

-- the block has the words of 64 numbers from `start` on
pub record IsBlockOf (ranges : List WordRange) (start : ℕ) (block : Block) : Type 0 where
  pub long : length block ≡ 64
  pub words : (k : ℕ) → k < 64 → slice_index block k ≡ word_in ranges (start + k)

-- all places from `place` on and before `end` have this block, and the number is its, which is added if it is none of
-- those kept
unfoldable pub AreNumbered : List WordRange → (place end : ℕ) → List Block → List Block → ℕ → Type 0
AreNumbered ranges place end old new number =
    (block : Block) × ((k : ℕ) → place ≤ k → k < end → IsBlockOf ranges (k * 64) block) × IsJoined old block new number

-- the numbers up to `last` have the word, and no range ends before `last`
pub record IsRun (ranges : List WordRange) (n word last : ℕ) : Type 0 where
  pub some : n ≤ last
  pub words : (m : ℕ) → n ≤ m → m ≤ last → word_in ranges m ≡ word
  pub from : AreFrom last ranges
