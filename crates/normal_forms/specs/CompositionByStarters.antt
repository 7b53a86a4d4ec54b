-- Canonical composition by starters: the form that proofs recurse on. `laws::composition_by_starters` says that it is
-- the composition of The Unicode Standard, D117.
use Rattle.std.specs.Prelude.{ℕ, Bool, nat_lt, List, [], ◌∷◌, ◌++◌, Option, Some, None, if◌then◌else◌}
use Rattle.std.specs.List.{list_all}
use Rattle.normal_forms.specs.Reading.{Reading, is_starter}

-- every buffered mark has a class below that of c
unfoldable pub is_above : Reading → List ℕ → ℕ → Bool
is_above d waiting c = list_all (λ m. nat_lt (d.class m) (d.class c)) waiting

-- what the starter a and c compose to, after the marks buffered between the two
unfoldable pub join : Reading → ℕ → List ℕ → ℕ → Option ℕ
join d a waiting c = if is_above d waiting c then d.pair a c else None

-- what a starter, the marks buffered after it and the rest compose to: c joins, or is the next starter, or is buffered
unfoldable pub compose_after : Reading → ℕ → List ℕ → List ℕ → List ℕ
compose_after d a waiting [] = a ∷ waiting
compose_after d a waiting (c ∷ rest) =
    elim (join d a waiting c) [
      | Some composite ↦ compose_after d composite waiting rest
      | None ↦
          let next_starter = (a ∷ waiting) ++ compose_after d c [] rest in
          let one_more = compose_after d a (waiting ++ c ∷ []) rest in
          if is_starter d c then next_starter else one_more
    ]

-- marks before the first starter stay
unfoldable pub compose_by_starters : Reading → List ℕ → List ℕ
compose_by_starters d [] = []
compose_by_starters d (c ∷ rest) = if is_starter d c then compose_after d c [] rest else c ∷ compose_by_starters d rest
