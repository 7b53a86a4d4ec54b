-- Canonical composition (The Unicode Standard, D115 and D117).
use Rattle.std.specs.Prelude.{ℕ, Bool, not, ◌&&◌, ◌||◌, nat_le, List, [], ◌∷◌, Option, Some, None, if◌then◌else◌}
use Rattle.std.specs.List.{list_any}
use Rattle.normal_forms.specs.Reading.{Reading, is_starter}

-- D115: what is between a starter and c blocks c from it
unfoldable pub is_blocked : Reading → List ℕ → ℕ → Bool
is_blocked d between c = list_any (λ b. is_starter d b || nat_le (d.class c) (d.class b)) between

-- what a becomes if it is a starter, c isn't blocked from it, and the two have a primary composite (D114, D116)
unfoldable pub joined : Reading → ℕ → List ℕ → ℕ → Option ℕ
joined d a between c = if is_starter d a && not (is_blocked d between c) then d.pair a c else None

-- c is visited, after the part of the working list that was visited before. A starter from which c isn't blocked is the
-- last one (`laws::unblocked_starter_is_last`): it is replaced and c removed, or c stays.
unfoldable pub visit : Reading → List ℕ → ℕ → List ℕ
visit d [] c = c ∷ []
visit d (a ∷ between) c =
    elim (joined d a between c) [ Some composite ↦ composite ∷ between | None ↦ a ∷ visit d between c ]

-- each character of `rest` is visited once, from the left
unfoldable pub compose_from : Reading → List ℕ → List ℕ → List ℕ
compose_from d visited [] = visited
compose_from d visited (c ∷ rest) = compose_from d (visit d visited c) rest

-- D117
unfoldable pub compose : Reading → List ℕ → List ℕ
compose d x = compose_from d [] x
