-- Lines that mean the same, however they are laid out.
use Rattle.std.specs.Prelude.{◌≡◌, ℕ, List, [], ◌∷◌}
use Rattle.normalizer_ucd.specs.Fields.{data_of, field, has_data}

-- both lines have data, or neither has, and their fields without white space round them are the same
pub record MeansTheSame (line other : List ℕ) : Type 0 where
  pub blank : has_data line ≡ has_data other
  pub fields : (n : ℕ) → field (data_of line) n ≡ field (data_of other) n

-- so it is of all lines, one by one
abbrev pub MeanTheSame : List (List ℕ) → List (List ℕ) → Type 0
MeanTheSame [] [] = Unit {0}
MeanTheSame (line ∷ parts) (other ∷ others) = MeansTheSame line other × MeanTheSame parts others
MeanTheSame _ _ = ⊥
