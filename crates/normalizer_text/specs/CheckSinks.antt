-- Sinks that take only what is expected.
use Rattle.std.specs.Prelude.{◌≡◌, ℕ, ◌+◌, List, ◌++◌, Option, MatchOption, length, drop}
use Rattle.normal_forms.specs.Cut.{IsFront}

-- what came of the units that are expected, and what is still to come
pub record Expectation : Type 0 where
  pub came : List ℕ
  pub remaining : List ℕ

-- units are refused: what is still to come does not begin with them
abbrev pub IsUnexpected : Expectation → List ℕ → Type 0
IsUnexpected s units = IsFront units s.remaining → ⊥

-- the same is expected in all
abbrev pub ExpectsTheSame : Expectation → Expectation → Type 0
ExpectsTheSame old new = new.came ++ new.remaining ≡ old.came ++ old.remaining

-- a refused call changes nothing
abbrev pub ChangesNothing : Expectation → Expectation → Type 0
ChangesNothing old new = new ≡ old

-- a piece is at a position of a list
abbrev pub StandsAt : {X : Type 0} → List X → ℕ → List X → Type 0
StandsAt {X = X} units position piece = (rest : List X) × (drop position units ≡ piece ++ rest)

-- the end of a piece that begins at a position, if it is there
abbrev pub IsEndOfPiece : {X : Type 0} → List X → ℕ → List X → Option ℕ → Type 0
IsEndOfPiece units position piece answer = MatchOption answer (StandsAt units position piece → ⊥)
    (λ end. (end ≡ position + length piece) × StandsAt units position piece)
