-- Files that are replaced.
use Rattle.std.specs.Prelude.{◌≡◌, ℕ, List, [], ◌∷◌, ◌++◌, Option, Some, None, ⊤}

-- a name, and the bytes of the file that has it now
abbrev pub Replacement : Type 0
Replacement = List ℕ × List ℕ

-- known replacements grow by one more
abbrev pub Adds : Option (List Replacement) → Option (List Replacement) → Replacement → Type 0
Adds None after one = ⊤
Adds (Some all) after one = after ≡ Some (all ++ (one ∷ []))
