-- The first character that breaks what a condition says of each.
use Rattle.std.specs.Prelude.{◌≡◌, ℕ, ◌<◌, List, ◌∷◌, ◌++◌, [], All, Option, Some, None}
use Rattle.std.specs.Char.{IsScalar}
use Rattle.normalizer_tables.specs.declared.condition.Condition.{Condition}
use Rattle.normalizer_tables.specs.Characters.{Characters}
use Rattle.normalizer_tables.specs.conditions.Conditions.{says}
use Rattle.normalizer_tables.specs.conditions.Loaded.{Loaded}
use Rattle.normalizer_tables.specs.conditions.PairConditions.{IsComposable}
use Rattle.normalizer_tables.specs.Pairs.{Pair}

-- the first character that breaks what a condition says of each, or there is none
abbrev pub IsFirstBreaking : Loaded → Condition → Option ℕ → Type 0
IsFirstBreaking d c None = (n : ℕ) → IsScalar n → (says d c).of_each n
IsFirstBreaking d c (Some n) =
    IsScalar n × (¬ (says d c).of_each n) × ((m : ℕ) → m < n → IsScalar m → (says d c).of_each m)

-- the firsts and the results of pairs, pair after pair
abbrev pub composing_members : List Pair → List ℕ
composing_members [] = []
composing_members (p ∷ pairs) = p.1 ∷ p.2 ∷ composing_members pairs

-- the first of them that has a class form or is ignored, or there is none
abbrev pub IsFirstUncomposable : Characters → List Pair → Option ℕ → Type 0
IsFirstUncomposable s pairs None = All (IsComposable s) (composing_members pairs)
IsFirstUncomposable s pairs (Some n) =
    (before : List ℕ) × (after : List ℕ) × (composing_members pairs ≡ before ++ n ∷ after)
    × All (IsComposable s) before × (¬ IsComposable s n)
