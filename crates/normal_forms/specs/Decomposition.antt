-- Full decomposition, before ordering (The Unicode Standard, D64; D68 is this and the ordering).
use Rattle.std.specs.Prelude.{ℕ, List, [], ◌∷◌, ◌++◌}
use Rattle.normal_forms.specs.Reading.{Reading}

-- the lists of the characters, one after another
unfoldable pub expand : Reading → List ℕ → List ℕ
expand d [] = []
expand d (c ∷ x) = d.list c ++ expand d x
