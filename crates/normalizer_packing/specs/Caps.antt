-- The number below which a composing loop may pass every character without looking up its word.
use Rattle.std.specs.Prelude.{◌≡◌, ℕ, ◌<◌, ◌≤◌, List, [], ◌∷◌, Option, Some, None}
use Rattle.normal_forms.specs.Composition.{compose}
use Rattle.normalizer_tables.specs.conditions.Conditions.{cap_limit}
use Rattle.normalizer_tables.specs.Pairs.{Pair, IsNeverSecond}
use Rattle.normalizer_tables.specs.declared.entry.Kind.{Kind}
use Rattle.normalizer_tables.specs.Entries.{EntryValue, class_in, list_in, reading_of_entries}

-- the list begins with a starter that is second in no pair
abbrev pub ListHasBoundary : List EntryValue → List Pair → List ℕ → Type 0
ListHasBoundary entries pairs [] = ⊥
ListHasBoundary entries pairs (s ∷ x) = (class_in entries s ≡ 0) × IsNeverSecond pairs s

-- n, with the list x, may be passed so: below the bound of decomposing loops it is a starter that decomposes to
-- itself, and everywhere its list composes to n alone and nothing composes with what is before it
pub record IsBelowCapWith (entries : List EntryValue) (pairs : List Pair) (n : ℕ) (x : List ℕ) : Type 0 where
  pub itself : n < 0xC0 → (x ≡ n ∷ []) × (class_in entries n ≡ 0)
  pub round_trip : compose (reading_of_entries entries pairs) x ≡ n ∷ []
  pub beginning : ListHasBoundary entries pairs x

-- an ignored character may not be passed so
abbrev pub IsBelowCapIf : List EntryValue → List Pair → ℕ → Option (List ℕ) → Type 0
IsBelowCapIf entries pairs n None = ⊥
IsBelowCapIf entries pairs n (Some x) = IsBelowCapWith entries pairs n x

-- the same by the list that entries have of n
unfoldable pub IsBelowCap : Kind → List EntryValue → List Pair → ℕ → Type 0
IsBelowCap kind entries pairs n = IsBelowCapIf entries pairs n (list_in kind entries n)

-- the least character that may not be passed, but at most the limit
pub record IsCap (kind : Kind) (entries : List EntryValue) (pairs : List Pair) (cap : ℕ) : Type 0 where
  pub within : cap ≤ cap_limit
  pub before : (n : ℕ) → n < cap → IsBelowCap kind entries pairs n
  pub at : cap < cap_limit → ¬ IsBelowCap kind entries pairs cap
