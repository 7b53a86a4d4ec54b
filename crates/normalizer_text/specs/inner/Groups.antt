-- Groups of units.
use Rattle.std.specs.Prelude.{◌≡◌, ℕ, ◌+◌, ◌<◌, ◌≤◌, false, List, slice_index}
use Rattle.normalizer_text.specs.Utf16.{is_high, is_low}

-- of the units from a place up to another, each low surrogate comes after a high one, and each high one before a low one
pub record ArePaired (units : List ℕ) (from to : ℕ) : Type 0 where
  pub first : is_low (slice_index units from) ≡ false
  pub next : (k : ℕ) → from ≤ k → k + 1 < to → is_low (slice_index units (k + 1)) ≡ is_high (slice_index units k)
  pub last : (k : ℕ) → k + 1 ≡ to → is_high (slice_index units k) ≡ false
