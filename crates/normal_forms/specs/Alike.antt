-- Readings that say the same.
use Rattle.std.specs.Prelude.{◌≡◌, ℕ}
use Rattle.normal_forms.specs.Reading.{Reading}

-- the two say the same of every character, and of every two characters
pub record AreAlike (d e : Reading) : Type 0 where
  pub lists : (c : ℕ) → d.list c ≡ e.list c
  pub classes : (c : ℕ) → d.class c ≡ e.class c
  pub pairs : (a b : ℕ) → d.pair a b ≡ e.pair a b
