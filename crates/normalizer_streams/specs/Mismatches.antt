-- The first place at which a stream isn't already normalized.
use Rattle.std.specs.Prelude.{◌≡◌, ◌≢◌, ◌⊎◌, ℕ, List, take, Option, IfSome}
use Rattle.icu_normalizer.specs.Encodings.{Encoding}
use Rattle.icu_normalizer.specs.Form.{Form}
use Rattle.icu_normalizer.specs.InputCut.{IsErrorAt, IsInputNormalized}
use Rattle.icu_normalizer.specs.InputOffence.{IsInputOffence}
use Rattle.icu_normalizer.specs.Reading.{Reading}
use Rattle.normalizer_streams.specs.IllFormed.{Ends}
use Rattle.normalizer_streams.specs.Positions.{IsPositionAfter}
use Rattle.normalizer_streams.specs.declared.ill_formed.Ending.{Ending}
use Rattle.normalizer_streams.specs.declared.ill_formed.Ending.TheVariants as ending
use Rattle.normalizer_streams.specs.declared.ill_formed.ErrorMode.{ErrorMode}
use Rattle.normalizer_streams.specs.declared.mismatch.Comparison.{Comparison}
use Rattle.normalizer_streams.specs.declared.mismatch.Comparison.TheVariants.{Normalized, Differs, Stopped}
use Rattle.normalizer_streams.specs.declared.mismatch.Mismatch.{Mismatch}

-- the bytes are well-formed and normalized
abbrev pub IsNormalizedBy : Reading → Form → List ℕ → Type 0
IsNormalizedBy d form bytes = IsInputNormalized Encoding.Utf8 d form bytes

-- the first mismatch of the bytes, and its position. The characters are the same only at an ill-formed sequence.
pub record IsMismatchOf (d : Reading) (form : Form) (bytes : List ℕ) (x : Mismatch) : Type 0 where
  pub place : ℕ
  pub first : IsInputOffence Encoding.Utf8 d form bytes place x.found x.wanted
  pub position : IsPositionAfter (take place bytes) x.position
  pub differ : (x.found ≢ x.wanted) ⊎ IsErrorAt Encoding.Utf8 bytes place

-- what is compared of the bytes: all, or if ill-formed input is fatal, what comes before the first ill-formed sequence
abbrev pub IsTextOf : ErrorMode → (bytes text : List ℕ) → Type 0
IsTextOf mode bytes text = (ending : Ending) × Ends mode bytes text ending

-- How bytes compare with their form: they are normalized, or this is the first mismatch of their text, or an ill-formed
-- sequence, which is fatal, comes after a text that is normalized.
abbrev pub Compares : ErrorMode → Reading → Form → (bytes : List ℕ) → Comparison → Type 0
Compares mode d form bytes Normalized = IsNormalizedBy d form bytes
Compares mode d form bytes (Differs x) = (text : List ℕ) × IsTextOf mode bytes text × IsMismatchOf d form text x
Compares mode d form bytes (Stopped p) =
    (text : List ℕ) × Ends mode bytes text (ending.Stopped p) × IsNormalizedBy d form text

-- by the bytes that are left in a source, if it reports them
pub record IsComparison (mode : ErrorMode) (d : Reading) (form : Form) (left : Option (List ℕ)) (c : Comparison)
    : Type 0 where
  pub input : List ℕ
  pub whole : IfSome left (λ all. input ≡ all)
  pub compares : Compares mode d form input c
