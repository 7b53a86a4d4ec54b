-- Decoding step by step, over a rule `first` that states the first step of units that aren't empty.
use Rattle.std.specs.Prelude.{◌≡◌, ℕ, zero, suc, ◌+◌, ◌-◌, ◌<◌, ◌≤◌, true, false, List, [], ◌∷◌, ◌++◌, length}
use Rattle.std.specs.Prelude.{take, drop, map, Option, Some, MatchOption, All}
use Rattle.std.specs.Iterator.{AlwaysYields}
use Rattle.normalizer_text.specs.declared.decoding_step.Step.{Step}

-- the character c, read from n units
abbrev pub read : ℕ → ℕ → Step
read c n = record { character = c; width = n; is_error = false }

-- U+FFFD for n units
abbrev pub replacement_step : ℕ → Step
replacement_step n = record { character = 0xFFFD; width = n; is_error = true }

-- units decode to characters: no units to none; others to the character of the step in front, and then to what the
-- units after that step decode to
pub data Decodes (first : List ℕ → Step) : List ℕ → List ℕ → Type 0 where
  nothing : Decodes first [] []
  step : (u : ℕ) (us x : List ℕ) → Decodes first (drop (first (u ∷ us)).width (u ∷ us)) x
      → Decodes first (u ∷ us) ((first (u ∷ us)).character ∷ x)

-- the steps of the units after the first n, which the step before took: the first step of them, and those after the
-- units that it takes. (The units are gone through one by one, so that the recursion ends.)
unfoldable pub steps_past : (List ℕ → Step) → ℕ → List ℕ → List Step
steps_past first n [] = []
steps_past first zero (u ∷ us) = first (u ∷ us) ∷ steps_past first ((first (u ∷ us)).width - 1) us
steps_past first (suc n) (u ∷ us) = steps_past first n us

-- the steps of the units, from the beginning
abbrev pub steps : (List ℕ → Step) → List ℕ → List Step
steps first units = steps_past first 0 units

-- the characters of the steps: the one text that the units decode to
abbrev pub decoded_text : (List ℕ → Step) → List ℕ → List ℕ
decoded_text first units = map (λ s. s.character) (steps first units)

-- the units are decoded without an error (D85)
abbrev pub IsWellFormed : (List ℕ → Step) → List ℕ → Type 0
IsWellFormed first units = All (λ s. s.is_error ≡ false) (steps first units)

-- how many units some steps take
abbrev pub width_of : List Step → ℕ
width_of [] = 0
width_of (s ∷ ss) = s.width + width_of ss

-- n units are taken by the first of the steps
pub record IsBoundary (first : List ℕ → Step) (units : List ℕ) (n : ℕ) : Type 0 where
  pub before : List Step
  pub after : List Step
  pub apart : steps first units ≡ before ++ after
  pub taken : width_of before ≡ n

-- ---- a call on the remaining units, its result, and the units that it left

-- the character of the step at the beginning, without its units
abbrev pub TakesFirst : (List ℕ → Step) → List ℕ → Option ℕ → List ℕ → Type 0
TakesFirst first units r rest = MatchOption r ((units ≡ []) × (rest ≡ []))
    (λ c. (0 < length units) × (c ≡ (first units).character) × (rest ≡ drop (first units).width units))

-- s is the first of the steps of the units
pub record IsFirstStep (first : List ℕ → Step) (units : List ℕ) (s : Step) : Type 0 where
  pub some : 0 < length units
  pub is : s ≡ first units

-- s is the last of the steps of the units
pub record IsLastStep (first : List ℕ → Step) (units : List ℕ) (s : Step) : Type 0 where
  pub fits : s.width ≤ length units
  pub last : steps first units ≡ steps first (take (length units - s.width) units) ++ s ∷ []

-- the character of the last of the steps, without its units
abbrev pub TakesLast : (List ℕ → Step) → List ℕ → Option ℕ → List ℕ → Type 0
TakesLast first units r rest = MatchOption r ((units ≡ []) × (rest ≡ []))
    (λ c. (s : Step) × IsLastStep first units s × (c ≡ s.character) × (rest ≡ take (length units - s.width) units))

-- calls in any mixture took the characters x from the beginning of the units and y from the end, and left the rest
pub data TakenFrom (first : List ℕ → Step) (units : List ℕ) : List ℕ → List ℕ → List ℕ → Type 0 where
  none : TakenFrom first units [] units []
  front : (x rest y : List ℕ) (c : ℕ) (left : List ℕ) → TakenFrom first units x rest y
      → TakesFirst first rest (Some c) left → TakenFrom first units (x ++ c ∷ []) left y
  back : (x rest y : List ℕ) (c : ℕ) (left : List ℕ) → TakenFrom first units x rest y
      → TakesLast first rest (Some c) left → TakenFrom first units x left (c ∷ y)

-- each run of calls of an iterator of characters returns these
abbrev pub Spells : {I : Type 0} → (I → Option ℕ → I → Type 0) → I → List ℕ → Type 0
Spells gives it x = AlwaysYields gives (λ c. c) it x
