-- The first place at which an input of units is not its own normal form (UAX #15, section 1.4; The Unicode Standard,
-- section 3.9).
use Rattle.std.specs.Prelude.{ℕ, List, drop, Option, MatchOption}
use Rattle.normal_forms.specs.Reading.{Reading}
use Rattle.normal_forms.specs.declared.Form.{Form}
use Rattle.normal_forms.specs.Forms.{normal_form}
use Rattle.normal_forms.specs.Offence.{IsFirst}
use Rattle.normalizer_text.specs.Encodings.{Encoding, decoded_in}
use Rattle.normalizer_text.specs.declared.offence.Offence.{Offence}
use Rattle.normalizer_text.specs.InputCut.{IsInputNormalized, IsInputCut}

-- the units are not both well-formed and normalized; the place is the cut, `found` the first character that the rest
-- there decodes to, and `wanted` the first of the form of what it decodes to
pub record IsInputOffence (e : Encoding) (d : Reading) (form : Form) (units : List ℕ) (place found wanted : ℕ)
    : Type 0 where
  pub differs : IsInputNormalized e d form units → ⊥
  pub cut : IsInputCut e d form units place
  pub is_found : IsFirst (decoded_in e (drop place units)) found
  pub is_wanted : IsFirst (normal_form d form (decoded_in e (drop place units))) wanted

-- the first mismatch of the units, or none if they are well-formed and normalized
abbrev pub IsInputOffenceOf : Encoding → Reading → Form → List ℕ → Option Offence → Type 0
IsInputOffenceOf e d form units answer = MatchOption answer (IsInputNormalized e d form units)
    (λ o. IsInputOffence e d form units o.place o.found o.wanted)
