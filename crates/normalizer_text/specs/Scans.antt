-- Scanning units.
use Rattle.std.specs.Prelude.{ℕ, ◌<◌, ◌≤◌, List, nat_lt, All}
use Rattle.std.specs.List.{prefix_len, slice_range}
use Rattle.normalizer_text.specs.Encodings.{Encoding, first_in, decoded_in}
use Rattle.normalizer_text.specs.DecodingSteps.{IsBoundary}

-- the number of units before the first one that is not below the bound
abbrev pub leading_below : ℕ → List ℕ → ℕ
leading_below bound units = prefix_len (λ unit. nat_lt unit bound) units

-- a step ends at the place `to`, and the characters from the place `from` up to it are below the bound
pub record EndsLowCharacters (e : Encoding) (units : List ℕ) (from bound to : ℕ) : Type 0 where
  pub behind : from ≤ to
  pub boundary : IsBoundary (first_in e) units to
  pub low : All (λ c. c < bound) (decoded_in e (slice_range units from to))
