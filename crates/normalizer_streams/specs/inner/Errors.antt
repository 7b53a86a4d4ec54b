-- The first ill-formed sequence of units.
use Rattle.std.specs.Prelude.{ℕ, List, take}
use Rattle.icu_normalizer.specs.DecodingSteps.{IsWellFormed}
use Rattle.icu_normalizer.specs.Encodings.{Encoding, first_in}
use Rattle.icu_normalizer.specs.InputCut.{IsErrorAt}

-- the first ill-formed sequence of the units begins at the place
pub record IsFirstErrorAt (e : Encoding) (units : List ℕ) (place : ℕ) : Type 0 where
  pub before : IsWellFormed (first_in e) (take place units)
  pub here : IsErrorAt e units place
