-- Tables made of stretches of numbers that have one word. What private contracts say of them.
use Rattle.std.specs.Prelude.{ℕ, ◌+◌, ◌<◌, ◌≤◌, List, ◌++◌, map, All, Contains}
use Rattle.std.specs.List.Sorted.{IsStrictlyIncreasing}
use Rattle.normalizer_tables.specs.Pairs.{Pair}
use Rattle.normalizer_tables.specs.Ranges.{IsRangeList, WordRange, word_in}
use Rattle.normalizer_tables.specs.Entries.{EntryValue}
use Rattle.normalizer_packing.specs.declared.breakpoints.TheConstants.{EDGES}

-- ranges before `end`, one after another, with the word of each number there
pub record CoverUpTo (is_word : ℕ → ℕ → Type 0) (rs : List WordRange) (end : ℕ) : Type 0 where
  pub list : IsRangeList rs
  pub before : All (λ r. r.1 < end) rs
  pub words : (n : ℕ) → n < end → is_word n (word_in rs n)

-- the numbers from one up to before another have the word of the first
unfoldable pub IsConstant : (ℕ → ℕ → Type 0) → ℕ → ℕ → Type 0
IsConstant is_word from end = (n w : ℕ) → from ≤ n → n < end → is_word from w → is_word n w

-- two neighbours have one word, unless one of them is listed in `breakpoints`
unfoldable pub IsConstantBetween : (ℕ → ℕ → Type 0) → List ℕ → Type 0
IsConstantBetween is_word breakpoints =
    (n w : ℕ) → ¬ Contains breakpoints n → ¬ Contains breakpoints (n + 1) → is_word n w → is_word (n + 1) w

-- the numbers of which entries, pairs, or the packing of numbers that no entry changes say something
abbrev pub breakpoint_numbers : List EntryValue → List Pair → List ℕ
breakpoint_numbers entries pairs = map (λ e. e.character) entries ++ map (λ p. p.0) pairs ++ EDGES

-- they all, in their order
pub record AreBreakpoints (entries : List EntryValue) (pairs : List Pair) (breakpoints : List ℕ) : Type 0 where
  pub all : (n : ℕ) → Contains (breakpoint_numbers entries pairs) n → Contains breakpoints n
  pub rising : IsStrictlyIncreasing breakpoints
