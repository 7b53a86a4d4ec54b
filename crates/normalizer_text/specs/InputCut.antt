-- The positions at which an input of units, well-formed or not, may be cut so that its front stays as it is (UAX #15,
-- section 1.4; The Unicode Standard, section 3.9).
use Rattle.std.specs.Prelude.{◌≡◌, ℕ, ◌≤◌, ◌<◌, true, false, List, ◌++◌, length, take, drop, All}
use Rattle.normal_forms.specs.Reading.{Reading}
use Rattle.normal_forms.specs.declared.Form.{Form}
use Rattle.normal_forms.specs.Forms.{normal_form, IsNormalized}
use Rattle.normalizer_text.specs.DecodingSteps.{IsWellFormed, IsBoundary}
use Rattle.normalizer_text.specs.Encodings.{Encoding, first_in, decoded_in}

-- the units are well-formed (D85), and what they decode to is normalized
pub record IsInputNormalized (e : Encoding) (d : Reading) (form : Form) (units : List ℕ) : Type 0 where
  pub well_formed : IsWellFormed (first_in e) units
  pub own : IsNormalized d form (decoded_in e units)

-- the first n units are well-formed, and what they decode to, followed by the form of what the rest decodes to, is the
-- form of what all of them decode to
pub record QualifiesForInputCut (e : Encoding) (d : Reading) (form : Form) (units : List ℕ) (n : ℕ) : Type 0 where
  pub within : n ≤ length units
  pub well_formed : IsWellFormed (first_in e) (take n units)
  pub keeps : decoded_in e (take n units) ++ normal_form d form (decoded_in e (drop n units))
      ≡ normal_form d form (decoded_in e units)

-- the greatest number that qualifies
pub record IsInputCut (e : Encoding) (d : Reading) (form : Form) (units : List ℕ) (n : ℕ) : Type 0 where
  pub qualifies : QualifiesForInputCut e d form units n
  pub greatest : (m : ℕ) → QualifiesForInputCut e d form units m → m ≤ n

-- how many characters the first n units decode to
abbrev pub characters_before : Encoding → List ℕ → ℕ → ℕ
characters_before e units n = length (decoded_in e (take n units))

-- n units are taken by the first of the steps, none of which is an error: a boundary at or before the first error
pub record IsErrorFreeBoundary (e : Encoding) (units : List ℕ) (n : ℕ) : Type 0 where
  pub boundary : IsBoundary (first_in e) units n
  pub error_free : All (λ s. s.is_error ≡ false) boundary.before

-- the units at the place begin with an ill-formed sequence (D84)
pub record IsErrorAt (e : Encoding) (units : List ℕ) (place : ℕ) : Type 0 where
  pub within : place < length units
  pub error : (first_in e (drop place units)).is_error ≡ true
