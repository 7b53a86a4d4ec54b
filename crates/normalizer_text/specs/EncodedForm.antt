-- The form of what units decode to, encoded as they are.
use Rattle.std.specs.Prelude.{◌≡◌, ℕ, ◌≤◌, List, length, take}
use Rattle.normal_forms.specs.Reading.{Reading}
use Rattle.normal_forms.specs.declared.Form.{Form}
use Rattle.normal_forms.specs.Forms.{normal_form}
use Rattle.normalizer_text.specs.Encodings.{Encoding, encoded_in, decoded_in}

-- the form of what the units decode to, encoded as they are
abbrev pub encoded_form : Encoding → Reading → Form → List ℕ → List ℕ
encoded_form e d form units = encoded_in e (normal_form d form (decoded_in e units))

-- the first k characters of the form of what the units decode to, encoded, are the first n units
pub record IsEncodedFront (e : Encoding) (d : Reading) (form : Form) (units : List ℕ) (n k : ℕ) : Type 0 where
  pub within : n ≤ length units
  pub characters : k ≤ length (normal_form d form (decoded_in e units))
  pub same : encoded_in e (take k (normal_form d form (decoded_in e units))) ≡ take n units
