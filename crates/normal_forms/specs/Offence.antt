-- The first place at which a text is not its own normal form.
use Rattle.std.specs.Prelude.{◌≡◌, ◌≢◌, ℕ, List, ◌∷◌, drop, Option, Some, None}
use Rattle.normal_forms.specs.Reading.{Reading}
use Rattle.normal_forms.specs.Forms.{Form, normal_form, IsNormalized}
use Rattle.normal_forms.specs.Cut.{IsCut}

-- x begins with c
abbrev pub IsFirst : List ℕ → ℕ → Type 0
IsFirst x c = (rest : List ℕ) × (x ≡ c ∷ rest)

-- x is not normalized; the place is the cut, `found` the first character of the rest there, and `wanted` the first of
-- the form of the rest
pub record IsFirstOffence (d : Reading) (form : Form) (x : List ℕ) (place found wanted : ℕ) : Type 0 where
  pub differs : normal_form d form x ≢ x
  pub cut : IsCut d form x place
  pub is_found : IsFirst (drop place x) found
  pub is_wanted : IsFirst (normal_form d form (drop place x)) wanted

-- none if x is normalized, else its first mismatch: the place, the character found and the one expected
abbrev pub IsOffenceOf : Reading → Form → List ℕ → Option (ℕ × ℕ × ℕ) → Type 0
IsOffenceOf d form x None = IsNormalized d form x
IsOffenceOf d form x (Some o) = IsFirstOffence d form x o.0 o.1 o.2
