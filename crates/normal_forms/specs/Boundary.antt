-- Positions at which a text may be divided so that each part is normalized apart (UAX #15, sections 1.4 and 9.1).
use Rattle.std.specs.Prelude.{ℕ, List, [], ◌∷◌}
use Rattle.normal_forms.specs.Reading.{Reading, IsSecondInNoPair, IsStarter}

-- x is empty, or begins with a starter (D107): nothing is reordered across its beginning
abbrev pub BeginsWithStarter : Reading → List ℕ → Type 0
BeginsWithStarter d [] = Unit {0}
BeginsWithStarter d (s ∷ x) = IsStarter d s

-- x is empty, or begins with a starter that is second in no pair (D114): nothing is composed across its beginning
abbrev pub BeginsAtBoundary : Reading → List ℕ → Type 0
BeginsAtBoundary d [] = Unit {0}
BeginsAtBoundary d (s ∷ x) = IsStarter d s × IsSecondInNoPair d s
