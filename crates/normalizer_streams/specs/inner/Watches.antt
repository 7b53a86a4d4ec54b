-- What is kept of the bytes whose form was written.
use Rattle.std.specs.Prelude.{◌≡◌, ℕ, ◌≤◌, List, ◌++◌, length, take, Option, Some, None}
use Rattle.normalizer_streams.specs.IllFormed.{ill_formed, steps_of, IsFirstIllFormed, IsWellFormedBy}
use Rattle.normalizer_streams.specs.Positions.{counted, line_after, bytes_before, IsPositionAfter}
use Rattle.normalizer_streams.specs.declared.ill_formed.ErrorMode.{ErrorMode}
use Rattle.normalizer_streams.specs.declared.ill_formed.ErrorMode.TheVariants.{Replacement, Fatal}
use Rattle.normalizer_streams.specs.declared.position.Cursor.{Cursor}
use Rattle.normalizer_streams.specs.declared.watch.Stop.{Stop}
use Rattle.normalizer_streams.specs.declared.watch.Watch.{Watch}

-- the cursor is after these bytes
pub record IsCursorAfter (front : List ℕ) (c : Cursor) : Type 0 where
  pub line_is : c.line ≡ counted (line_after front)
  pub bytes_is : c.bytes ≡ counted (bytes_before front)

-- by replacement, errors are counted; else there was none, and the cursor is after all that was passed
abbrev pub Knows : ErrorMode → Watch → (passed : List ℕ) → Type 0
Knows Replacement w passed = w.found ≡ counted (ill_formed passed)
Knows Fatal w passed = (w.found ≡ 0) × IsWellFormedBy passed × IsCursorAfter passed w.cursor

-- the watch knows what is to be known of the bytes that were passed
abbrev pub Watches : ErrorMode → Watch → (passed : List ℕ) → Type 0
Watches mode w passed = (w.mode ≡ mode) × Knows mode w passed

-- a piece decodes apart from what was passed
abbrev pub Joins : (passed piece : List ℕ) → Type 0
Joins passed piece = steps_of (passed ++ piece) ≡ steps_of passed ++ steps_of piece

-- a text stops in a piece, after what was passed
pub record StopsIn (passed piece : List ℕ) (stop : Stop) : Type 0 where
  pub within : stop.place ≤ length piece
  pub first : IsFirstIllFormed piece (take stop.place piece)
  pub position : IsPositionAfter (passed ++ take stop.place piece) stop.position

-- the watch knows of a piece too, or the text stops in it
abbrev pub IsNoted : ErrorMode → Watch → (passed piece : List ℕ) → Option Stop → Type 0
IsNoted mode w passed piece None = Watches mode w (passed ++ piece)
IsNoted mode w passed piece (Some stop) =
    (mode ≡ Fatal) × (w.mode ≡ Fatal) × IsWellFormedBy passed × StopsIn passed piece stop

-- the part of a piece whose form is written
abbrev pub text_in : (piece : List ℕ) → Option Stop → List ℕ
text_in piece None = piece
text_in piece (Some stop) = take stop.place piece
