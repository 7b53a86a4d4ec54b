-- What a private function ensures that writes a form if the input is not normalized.
use Rattle.std.specs.Prelude.{◌≡◌, ◌↔◌, ℕ, Bool, List, ◌++◌, IsTrue, IsFalse}
use Rattle.normalizer_text.specs.Encodings.{Encoding}
use Rattle.normalizer_text.specs.InputCut.{IsInputNormalized}
use Rattle.normalizer_calls.specs.Forms.{MadeForm}
use Rattle.normalizer_calls.specs.Owned.{IsEncodedFormOf}

-- The units are well-formed and normalized, or their form was appended to what was taken before.
pub record WroteUnlessOwn {S : Type 0} (taken : S → List ℕ) (m : MadeForm) (e : Encoding) (units : List ℕ) (old : S)
    (own : Bool) (new : S) : Type 0 where
  pub is_own : IsTrue own ↔ IsInputNormalized e m.reading m.form units
  pub kept : IsTrue own → IsEncodedFormOf m e units units
  pub wrote : IsFalse own → (content : List ℕ) × (taken new ≡ taken old ++ content) × IsEncodedFormOf m e units content
