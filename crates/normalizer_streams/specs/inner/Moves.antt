-- Bytes on their way from a source to the form that a target takes.
use Rattle.std.specs.Prelude.{◌≡◌, ℕ, ◌<◌, Bool, true, false, List, ◌++◌, length, take, drop, Option}
use Rattle.std.specs.Io.KnownBytes.{Appends, Consumes, IsAtEnd}
use Rattle.normalizer_io.specs.Transfer.{AppendsFront}
use Rattle.normalizer_streams.specs.IllFormed.{first_of, steps_of, Ends, IsFirstIllFormed}
use Rattle.normalizer_streams.specs.Positions.{IsPositionAfter}
use Rattle.normalizer_streams.specs.inner.Watches.{Watches}
use Rattle.normalizer_streams.specs.declared.ill_formed.Ending.{Ending}
use Rattle.normalizer_streams.specs.declared.ill_formed.ErrorMode.{ErrorMode}
use Rattle.normalizer_streams.specs.declared.ill_formed.ErrorMode.TheVariants.{Fatal}
use Rattle.normalizer_streams.specs.declared.position.Position.{Position}
use Rattle.normalizer_streams.specs.declared.watch.Watch.{Watch}

-- bytes begin with a whole character
pub record BeginsWhole (bytes : List ℕ) : Type 0 where
  pub some : 0 < length bytes
  pub whole : (first_of bytes).is_error ≡ false

-- the rest begins with the same step as the bytes
pub record BeginsAs (bytes rest : List ℕ) : Type 0 where
  pub some : 0 < length rest
  pub same : first_of rest ≡ first_of bytes

-- the form and the steps of a prefix are apart from those of whatever begins as the bytes after it
pub record IsDivided (form : List ℕ → List ℕ) (front bytes : List ℕ) : Type 0 where
  pub begins : BeginsWhole bytes
  pub apart : (rest : List ℕ) → BeginsAs bytes rest → form (front ++ rest) ≡ form front ++ form rest
  pub steps_apart : (rest : List ℕ) → BeginsAs bytes rest → steps_of (front ++ rest) ≡ steps_of front ++ steps_of rest

-- the bytes are divided at a place
pub record IsSettled (form : List ℕ → List ℕ) (bytes : List ℕ) (place : ℕ) : Type 0 where
  pub positive : 0 < place
  pub within : place < length bytes
  pub divided : IsDivided form (take place bytes) (drop place bytes)

-- anything may come if nothing was passed, and else what begins as what is carried
abbrev pub MayFollow : (passed carried rest : List ℕ) → Type 0
MayFollow passed carried rest = 0 < length passed → BeginsAs carried rest

-- The form of what was passed is written, whatever comes after it.
pub record IsPassed (form : List ℕ → List ℕ) (passed written carried : List ℕ) : Type 0 where
  pub begins : 0 < length passed → BeginsWhole carried
  pub apart : (rest : List ℕ) → MayFollow passed carried rest → form (passed ++ rest) ≡ written ++ form rest
  pub steps_apart : (rest : List ℕ) → MayFollow passed carried rest
      → steps_of (passed ++ rest) ≡ steps_of passed ++ steps_of rest

-- Bytes were read from a source: some were passed, the others are carried. A target took what was written.
pub record Moves (form : List ℕ → List ℕ) (left left' taken taken' : Option (List ℕ)) (carried : List ℕ)
    : Type 0 where
  pub read : List ℕ
  pub consumed : Consumes left left' read
  pub passed : List ℕ
  pub written : List ℕ
  pub parts : read ≡ passed ++ carried
  pub appended : Appends taken taken' written
  pub is_passed : IsPassed form passed written carried

-- more bytes were read from a source, and are carried after the others: some, or none at its end
pub record Carries (left left' : Option (List ℕ)) (carried carried' : List ℕ) (is_some : Bool) : Type 0 where
  pub more : List ℕ
  pub consumed : Consumes left left' more
  pub appended : carried' ≡ carried ++ more
  pub some : is_some ≡ true → 0 < length more
  pub end : is_some ≡ false → IsAtEnd left'

-- a piece of what was carried is passed, and its form written
pub record Passes (mode : ErrorMode) (form : List ℕ → List ℕ) (watch : Watch)
    (taken taken' : Option (List ℕ)) (passed written carried carried' : List ℕ) : Type 0 where
  pub front : List ℕ
  pub output : List ℕ
  pub parts : carried ≡ front ++ carried'
  pub appended : Appends taken taken' output
  pub is_passed : IsPassed form (passed ++ front) (written ++ output) carried'
  pub watches : Watches mode watch (passed ++ front)

-- the text ends in what is carried, and the form of it is written
pub record Stops (mode : ErrorMode) (form : List ℕ → List ℕ) (position : Position)
    (taken taken' : Option (List ℕ)) (passed written carried next : List ℕ) : Type 0 where
  pub fatal : mode ≡ Fatal
  pub front : List ℕ
  pub first : IsFirstIllFormed (passed ++ (carried ++ next)) (passed ++ front)
  pub position_is : IsPositionAfter (passed ++ front) position
  pub output : List ℕ
  pub whole : form (passed ++ front) ≡ written ++ output
  pub appended : Appends taken taken' output

-- a beginning of the form of what is to be written is written after what was
pub record IsCut (mode : ErrorMode) (form : List ℕ → List ℕ) (taken taken' : Option (List ℕ))
    (passed written rest : List ℕ) : Type 0 where
  pub text : List ℕ
  pub ending : Ending
  pub ends : Ends mode (passed ++ rest) text ending
  pub output : List ℕ
  pub whole : form text ≡ written ++ output
  pub appended : AppendsFront taken taken' output
