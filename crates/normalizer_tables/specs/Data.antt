-- What the data structs mean: records of lists and tables.
use Rattle.std.specs.Prelude.{ℕ, List, [], Option, Some, None}
use Rattle.normalizer_tables.specs.Table.{Table}

-- decomposition data: the words, and the cap, below which a composing loop passes characters without looking at words
pub record Decompositions : Type 0 where
  pub table : Table
  pub cap : ℕ

-- the tables that hold lists of characters up to U+FFFF, and of any characters
pub record Lists : Type 0 where
  pub scalars16 : List ℕ
  pub scalars24 : List ℕ

-- the supplement for one step of decomposition
pub record Supplement : Type 0 where
  pub table : Table
  pub scalars24 : List ℕ

-- the tables if there are some, else empty ones
abbrev pub lists_or_none : Option Lists → Lists
lists_or_none None = record { scalars16 = []; scalars24 = [] }
lists_or_none (Some t) = t
