-- The place at which decoding from the end begins.
use Rattle.std.specs.Prelude.{◌≡◌, ℕ, ◌-◌, ◌<◌, ◌≤◌, Bool, true, false, List, length, slice_index}
use Rattle.normalizer_text.specs.Encodings.{longest_step}

-- of the places at the back that one step can reach, the last one with a unit that doesn't trail, or else the first of
-- them
pub record IsLastStart (trails : ℕ → Bool) (units : List ℕ) (place : ℕ) : Type 0 where
  pub below : place < length units
  pub low : length units - longest_step ≤ place
  pub after : (k : ℕ) → place < k → k < length units → trails (slice_index units k) ≡ true
  pub at : length units - longest_step < place → trails (slice_index units place) ≡ false
