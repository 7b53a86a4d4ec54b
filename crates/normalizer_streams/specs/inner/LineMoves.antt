-- Lines on their way from a source to the reply that a target takes.
use Rattle.std.specs.Prelude.{◌≡◌, ℕ, ◌+◌, ◌≤◌, List, [], ◌∷◌, ◌++◌, length, Option}
use Rattle.std.specs.Io.KnownBytes.{Appends, Consumes}
use Rattle.normalizer_io.specs.Transfer.{AppendsFront}
use Rattle.normalizer_streams.specs.IllFormed.{decoded, steps_of}
use Rattle.normalizer_streams.specs.Replies.{feeds, is_nothing}
use Rattle.normalizer_streams.specs.inner.Watches.{text_in, IsNoted, Watches}
use Rattle.normalizer_streams.specs.declared.ill_formed.ErrorMode.{ErrorMode}
use Rattle.normalizer_streams.specs.declared.lines.Progress.{Progress}
use Rattle.normalizer_streams.specs.declared.watch.Stop.{Stop}
use Rattle.normalizer_streams.specs.declared.watch.Watch.{Watch}

-- the bytes are whole lines, and decode apart from whatever comes after them
pub record EndsLine (bytes : List ℕ) : Type 0 where
  pub steps_apart : (rest : List ℕ) → steps_of (bytes ++ rest) ≡ steps_of bytes ++ steps_of rest
  pub front : List ℕ
  pub ends : decoded bytes ≡ front ++ 0x0A ∷ []

-- after a piece the reply may be divided, and the steps of decoding are
pub record IsWholePiece (reply : ℕ → List ℕ → List ℕ) (piece : List ℕ) : Type 0 where
  pub steps_apart : (rest : List ℕ) → steps_of (piece ++ rest) ≡ steps_of piece ++ steps_of rest
  pub apart : (n : ℕ) (rest : List ℕ) → reply n (decoded (piece ++ rest))
      ≡ reply n (decoded piece) ++ reply (n + feeds (decoded piece)) (decoded rest)

-- the reply to what was passed is written, whatever comes after it
pub record IsReplied (mode : ErrorMode) (reply : ℕ → List ℕ → List ℕ) (p : Progress) (passed written : List ℕ)
    : Type 0 where
  pub steps_apart : (rest : List ℕ) → steps_of (passed ++ rest) ≡ steps_of passed ++ steps_of rest
  pub apart : (rest : List ℕ) → reply 0 (decoded (passed ++ rest)) ≡ written ++ reply p.lines (decoded rest)
  pub fewer : p.lines ≤ length passed
  pub silent : p.is_silent ≡ is_nothing written
  pub watches : Watches mode p.watch passed

-- after that, the reply to a piece is written, up to where the text ends in it
pub record IsPieceReplied (mode : ErrorMode) (reply : ℕ → List ℕ → List ℕ) (p p' : Progress)
    (passed written piece output : List ℕ) (stop : Option Stop) : Type 0 where
  pub noted : IsNoted mode p'.watch passed piece stop
  pub output_is : output ≡ reply p.lines (decoded (text_in piece stop))
  pub lines : p'.lines ≡ p.lines + feeds (decoded (text_in piece stop))
  pub silent : p'.is_silent ≡ is_nothing (written ++ output)

-- a prefix of the reply to a piece is written
pub record IsPieceCutOff (mode : ErrorMode) (reply : ℕ → List ℕ → List ℕ) (p : Progress)
    (passed piece : List ℕ) (taken taken' : Option (List ℕ)) : Type 0 where
  pub stop : Option Stop
  pub watch : Watch
  pub noted : IsNoted mode watch passed piece stop
  pub output : AppendsFront taken taken' (reply p.lines (decoded (text_in piece stop)))

-- bytes were read from a source: some were passed, the others are carried; a target took what was written
pub record MovesLines (mode : ErrorMode) (reply : ℕ → List ℕ → List ℕ)
    (left left' taken taken' : Option (List ℕ)) (carried : List ℕ) (p : Progress) : Type 0 where
  pub read : List ℕ
  pub consumed : Consumes left left' read
  pub passed : List ℕ
  pub written : List ℕ
  pub parts : read ≡ passed ++ carried
  pub appended : Appends taken taken' written
  pub replied : IsReplied mode reply p passed written
