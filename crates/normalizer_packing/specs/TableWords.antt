-- A table of which each word is known by what it means.
use Rattle.std.specs.Prelude.{◌≡◌, ℕ, ◌<◌, List}
use Rattle.normalizer_tables.specs.Ranges.{WordRange, word_in, IsComplete, IsRangeList}
use Rattle.normalizer_tables.specs.Table.{Table, word_at, code_points}

-- each code point has a word of its own, and every number above has the word 0
pub record HasWords (is_word : ℕ → ℕ → Type 0) (t : Table) : Type 0 where
  pub complete : IsComplete t
  pub words : (n : ℕ) → n < code_points → is_word n (word_at t n)
  pub past : t.past ≡ 0

-- ranges of code points whose words are those of all
pub record CoverWords (is_word : ℕ → ℕ → Type 0) (ranges : List WordRange) : Type 0 where
  pub range_list : IsRangeList ranges
  pub words : (n : ℕ) → n < code_points → is_word n (word_in ranges n)
