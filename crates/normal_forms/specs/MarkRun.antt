-- Canonical composition of a starter with the marks that follow it (The Unicode Standard, D115 and D117).
use Rattle.std.specs.Prelude.{◌≡◌, ℕ, ◌<◌, List, [], ◌∷◌, ◌++◌, Some, None}
use Rattle.normal_forms.specs.Reading.{Reading}
use Rattle.normal_forms.specs.CompositionByStarters.{join}

-- what the starter a becomes with the remaining marks, and the marks that stay: each joins, or stays after others
unfoldable pub compose_marks : Reading → ℕ → List ℕ → List ℕ → ℕ × List ℕ
compose_marks d a staying [] = (a, staying)
compose_marks d a staying (m ∷ coming) =
    elim (join d a staying m) [
      | Some composite ↦ compose_marks d composite staying coming
      | None ↦ compose_marks d a (staying ++ m ∷ []) coming
    ]

-- the last of p has a class below that of c (D115)
pub record IsLastBelow (d : Reading) (p : List ℕ) (c : ℕ) : Type 0 where
  pub front : List ℕ
  pub last : ℕ
  pub parts : p ≡ front ++ last ∷ []
  pub below : d.class last < d.class c
