-- A condition of a list of which all are met.
use Rattle.std.proofs.Common.{◌≡◌, ◌==◌, ℕ, List, [], ◌∷◌, All, Option, Some, None, ap, drop, get_or, map, sym, ◌∙◌}
use Rattle.std.specs.List.{Contains, find}
use Rattle.std.proofs.lemmas.List.Elements.{All-cons, All-contains, All-nil}
use Rattle.std.proofs.lemmas.List.Folds.{find_at}
use Rattle.std.proofs.lemmas.Option.{slice_get_within, get_or_from_slice_get}
use Rattle.normalizer_tables.specs.declared.condition.Condition.{Condition}
use Rattle.normalizer_tables.specs.conditions.Conditions.{IsMet, number_of}
use Rattle.normalizer_tables.specs.conditions.Loaded.{Loaded}

-- the first of the conditions with this number
abbrev pub first_numbered : ℕ → List Condition → Option Condition
first_numbered number conditions = find (λ c. number_of c == number) conditions

-- what is found by its number is among them
listed : (conditions : List Condition) (number : ℕ) (c : Condition) → first_numbered number conditions ≡ Some c → Contains conditions c
listed conditions number c found =
    let at = sym (find_at (λ e. number_of e == number) conditions) ∙ found in
    (_, slice_get_within conditions _ c at, get_or_from_slice_get conditions _ c c at)

-- for a list and a condition that are named, the last premise is `refl`
pub met : (d : Loaded) (conditions : List Condition) (c : Condition) → All (IsMet d) conditions → first_numbered (number_of c) conditions ≡ Some c → IsMet d c
met d conditions c all found = All-contains (IsMet d) conditions c all (listed conditions (number_of c) c found)

-- the conditions of another list are met if each is found by its number
pub all_met : (d : Loaded) (conditions chosen : List Condition) → All (IsMet d) conditions → map (λ c. first_numbered (number_of c) conditions) chosen ≡ map Some chosen → All (IsMet d) chosen
all_met d conditions [] all found = All-nil (IsMet d)
all_met d conditions (c ∷ chosen) all found =
    All-cons (IsMet d) c chosen (met d conditions c all (ap (λ l. get_or l 0 None) found)) (all_met d conditions chosen all (ap (drop 1) found))
