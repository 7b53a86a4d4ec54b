-- Characters with which a part of a text begins that is normalized apart (UAX #15, section 9.1).
use Rattle.std.specs.Prelude.{◌≡◌, ℕ, List, ◌∷◌, ◌++◌}
use Rattle.normal_forms.specs.Reading.{Reading}
use Rattle.normal_forms.specs.declared.Form.{Form}
use Rattle.normal_forms.specs.Forms.{normal_form}

-- a text that begins with c is normalized apart from what comes before it
abbrev pub HasBoundaryBefore : Reading → Form → ℕ → Type 0
HasBoundaryBefore d form c = (front x : List ℕ)
    → normal_form d form (front ++ c ∷ x) ≡ normal_form d form front ++ normal_form d form (c ∷ x)
