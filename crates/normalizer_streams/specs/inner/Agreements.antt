-- Bytes that were passed and agree with their form, and pieces that are compared with theirs.
use Rattle.std.specs.Prelude.{◌≡◌, ◌≢◌, ◌⊎◌, ℕ, ◌<◌, false, List, ◌++◌, length, take, Option, Some, None}
use Rattle.std.specs.Io.KnownBytes.{Consumes}
use Rattle.icu_normalizer.specs.BoundaryBefore.{HasBoundaryBefore}
use Rattle.icu_normalizer.specs.Checks.{HasOffenceWithin}
use Rattle.icu_normalizer.specs.DecodingSteps.{IsWellFormed}
use Rattle.icu_normalizer.specs.Encodings.{Encoding, first_in}
use Rattle.icu_normalizer.specs.Forms.{MadeForm}
use Rattle.icu_normalizer.specs.InputCut.{IsErrorAt}
use Rattle.icu_normalizer.specs.InputOffence.{IsInputOffence}
use Rattle.normalizer_streams.specs.IllFormed.{IsFirstIllFormed}
use Rattle.normalizer_streams.specs.Mismatches.{IsNormalizedBy, IsTextOf}
use Rattle.normalizer_streams.specs.Positions.{IsPositionAfter}
use Rattle.normalizer_streams.specs.inner.Watches.{IsCursorAfter}
use Rattle.normalizer_streams.specs.declared.ill_formed.ErrorMode.{ErrorMode}
use Rattle.normalizer_streams.specs.declared.ill_formed.ErrorMode.TheVariants.{Fatal}
use Rattle.normalizer_streams.specs.declared.mismatch.Comparison.{Comparison}
use Rattle.normalizer_streams.specs.declared.mismatch.Comparison.TheVariants.{Normalized, Differs, Stopped}
use Rattle.normalizer_streams.specs.declared.position.Cursor.{Cursor}

-- the units begin with a whole character, before which a text may be divided
pub record BeginsPart (e : Encoding) (m : MadeForm) (units : List ℕ) : Type 0 where
  pub some : 0 < length units
  pub whole : (first_in e units).is_error ≡ false
  pub apart : HasBoundaryBefore m.reading m.form (first_in e units).character

-- the same of bytes
abbrev pub BeginsPartBy : MadeForm → List ℕ → Type 0
BeginsPartBy m bytes = BeginsPart Encoding.Utf8 m bytes

-- what was passed is normalized, what is carried begins a new part, and the cursor is between them
pub record Agrees (m : MadeForm) (passed carried : List ℕ) (cursor : Cursor) : Type 0 where
  pub normalized : IsNormalizedBy m.reading m.form passed
  pub begins : 0 < length passed → BeginsPartBy m carried
  pub at : IsCursorAfter passed cursor

-- bytes were read from a source: some were passed, the others are carried
pub record IsReadTo (m : MadeForm) (left left' : Option (List ℕ)) (carried : List ℕ) (cursor : Cursor) : Type 0 where
  pub read : List ℕ
  pub consumed : Consumes left left' read
  pub passed : List ℕ
  pub parts : read ≡ passed ++ carried
  pub agrees : Agrees m passed carried cursor

-- a piece of what was carried is passed
pub record AgreesFurther (m : MadeForm) (passed carried carried' : List ℕ) (cursor : Cursor) : Type 0 where
  pub front : List ℕ
  pub parts : carried ≡ front ++ carried'
  pub agrees : Agrees m (passed ++ front) carried' cursor

-- The first mismatch of units, which no more units remove if they are well-formed. The characters are the same only at an
-- ill-formed sequence.
pub record IsMismatchIn (e : Encoding) (m : MadeForm) (units : List ℕ) (place found wanted : ℕ) : Type 0 where
  pub first : IsInputOffence e m.reading m.form units place found wanted
  pub differ : (found ≢ wanted) ⊎ IsErrorAt e units place
  pub lasts : IsWellFormed (first_in e) units → (more : List ℕ) → HasOffenceWithin m e (units ++ more) place

-- how a piece compares with its form: it agrees, and the cursor is after it; or where it doesn't, or its text ends.
abbrev pub IsPieceCompared : ErrorMode → MadeForm → (passed piece : List ℕ) → Option Comparison → Cursor → Type 0
IsPieceCompared mode m passed piece None cursor =
    IsNormalizedBy m.reading m.form piece × IsCursorAfter (passed ++ piece) cursor
IsPieceCompared mode m passed piece (Some Normalized) cursor = ⊥
IsPieceCompared mode m passed piece (Some (Differs x)) cursor = (text : List ℕ) × (place : ℕ) × IsTextOf mode piece text
    × IsMismatchIn Encoding.Utf8 m text place x.found x.wanted × IsPositionAfter (passed ++ take place text) x.position
IsPieceCompared mode m passed piece (Some (Stopped p)) cursor = (text : List ℕ) × (mode ≡ Fatal)
    × IsFirstIllFormed piece text × IsNormalizedBy m.reading m.form text × IsPositionAfter (passed ++ text) p
