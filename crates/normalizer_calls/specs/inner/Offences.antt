-- What private functions ensure on the way to a mismatch or a split.
use Rattle.std.specs.Prelude.{◌≡◌, ℕ, List, []}
use Rattle.std.specs.Prelude.{Option, MatchOption}
use Rattle.normal_forms.specs.Reading.{Reading}
use Rattle.normal_forms.specs.declared.Form.{Form}
use Rattle.normal_forms.specs.Offence.{IsFirst}
use Rattle.normalizer_text.specs.Encodings.{Encoding}
use Rattle.normalizer_text.specs.InputCut.{IsInputNormalized, IsInputCut}

-- the cut of the units, or nothing if they are well-formed and normalized
abbrev pub IsCutUnlessNormalized : Encoding → Reading → Form → List ℕ → Option ℕ → Type 0
IsCutUnlessNormalized e d form units result = MatchOption result (IsInputNormalized e d form units)
    (λ place. (IsInputNormalized e d form units → ⊥) × IsInputCut e d form units place)

-- what x begins with, or nothing if x is empty
abbrev pub IsFirstOrNone : List ℕ → Option ℕ → Type 0
IsFirstOrNone x first = MatchOption first (x ≡ []) (IsFirst x)
