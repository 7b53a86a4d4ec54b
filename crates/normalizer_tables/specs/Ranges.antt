-- A code point table made of ranges of code points, each with a word.
use Rattle.std.specs.Prelude.{◌≡◌, ℕ, ◌<◌, ◌≤◌, ◌&&◌, nat_le, List, [], ◌∷◌, All, AllPairs, length, map, if◌then◌else◌}
use Rattle.std.specs.List.{range_with_len}
use Rattle.normalizer_tables.specs.Table.{Table, word_at, code_points}

-- the first number, the last number, and their word
abbrev pub WordRange : Type 0
WordRange = ℕ × ℕ × ℕ

-- the range has a member, and ends within the code points
abbrev pub IsRange : WordRange → Type 0
IsRange r = (r.0 ≤ r.1) × (r.1 < code_points)

-- ranges of code points, each before all later ones
pub record IsRangeList (rs : List WordRange) : Type 0 where
  pub ranges : All IsRange rs
  pub rising : AllPairs (λ r s. r.1 < s.0) rs

-- the word of the first range that contains the number, or 0
unfoldable pub word_in : List WordRange → ℕ → ℕ
word_in [] n = 0
word_in (r ∷ rs) n = if nat_le r.0 n && nat_le n r.1 then r.2 else word_in rs n

-- the word of each code point in the ranges
unfoldable pub words_of : List WordRange → List ℕ
words_of ranges = map (word_in ranges) (range_with_len 0 code_points)

-- the table has a word for every code point
unfoldable pub IsComplete : Table → Type 0
IsComplete t = length t.words ≡ code_points

-- each code point has its word in the ranges, and each number above has the word `above`
pub record IsTableOf (rs : List WordRange) (above : ℕ) (t : Table) : Type 0 where
  pub complete : IsComplete t
  pub words : (n : ℕ) → n < code_points → word_at t n ≡ word_in rs n
  pub past : t.past ≡ above
