-- Ill-formed sequences in bytes (The Unicode Standard, D84), and where a stream ends that has some.
use Rattle.std.specs.Prelude.{◌≡◌, ℕ, ◌<◌, true, List, ◌++◌, count_by, length}
use Rattle.icu_normalizer.specs.DecodingSteps.{steps, IsWellFormed}
use Rattle.icu_normalizer.specs.Encodings.{Encoding, decoded_in, first_in}
use Rattle.icu_normalizer.specs.Step.{Step}
use Rattle.normalizer_streams.specs.Positions.{counted, IsPositionAfter}
use Rattle.normalizer_streams.specs.declared.ill_formed.ErrorMode.{ErrorMode}
use Rattle.normalizer_streams.specs.declared.ill_formed.ErrorMode.TheVariants.{Replacement, Fatal}
use Rattle.normalizer_streams.specs.declared.ill_formed.Ending.{Ending}
use Rattle.normalizer_streams.specs.declared.ill_formed.Ending.TheVariants.{Whole, Stopped}

-- the first step of decoding of bytes, all of them, and the text that they decode to
abbrev pub first_of : List ℕ → Step
first_of bytes = first_in Encoding.Utf8 bytes

abbrev pub steps_of : List ℕ → List Step
steps_of bytes = steps first_of bytes

abbrev pub decoded : List ℕ → List ℕ
decoded bytes = decoded_in Encoding.Utf8 bytes

-- how many ill-formed sequences bytes have: each reads as one U+FFFD
abbrev pub ill_formed : List ℕ → ℕ
ill_formed bytes = count_by (λ s. s.is_error) (steps_of bytes)

-- bytes without one (D85)
abbrev pub IsWellFormedBy : List ℕ → Type 0
IsWellFormedBy bytes = IsWellFormed first_of bytes

-- the first ill-formed sequence of the bytes comes after this beginning of them
pub record IsFirstIllFormed (bytes front : List ℕ) : Type 0 where
  pub rest : List ℕ
  pub parts : bytes ≡ front ++ rest
  pub well_formed : IsWellFormedBy front
  pub some : 0 < length rest
  pub error : (first_of rest).is_error ≡ true

-- How a stream of these bytes ends, and the bytes of it whose form is written. By replacement that is all of them, each
-- ill-formed sequence as U+FFFD. If ill-formed input is fatal, it is what comes before the first ill-formed sequence.
abbrev pub Ends : ErrorMode → (bytes text : List ℕ) → Ending → Type 0
Ends Replacement bytes text (Whole n) = (text ≡ bytes) × (n ≡ counted (ill_formed bytes))
Ends Replacement bytes text (Stopped p) = ⊥
Ends Fatal bytes text (Whole n) = (text ≡ bytes) × (n ≡ 0) × IsWellFormedBy bytes
Ends Fatal bytes text (Stopped p) = IsFirstIllFormed bytes text × IsPositionAfter text p
