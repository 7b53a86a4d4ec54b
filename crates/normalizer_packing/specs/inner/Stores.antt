-- A store of lists: tables, and the place of each list in them.
use Rattle.std.specs.Prelude.{◌≡◌, ℕ, List, ◌∷◌, [], ◌++◌, length, Option, Some, None, if◌then◌else◌}
use Rattle.std.specs.BTreeMap.{get_by}
use Rattle.std.specs.Cmp.Lexicographic.{slice_cmp}
use Rattle.std.specs.Ordering.{nat_cmp}
use Rattle.normalizer_tables.specs.Characters.{items_at}
use Rattle.normalizer_tables.specs.Data.{Lists}
use Rattle.normalizer_packing.specs.declared.store.Store.{Store}
use Rattle.normalizer_tables.specs.Entries.{EntryValue}
use Rattle.normalizer_packing.specs.Stored.{apart_from, canonical_lists, first_come, is_among, is_narrow, place_of}
use Rattle.normalizer_packing.specs.Stored.{supplementary_lists, tables_of}

-- the place of a list in its table
unfoldable pub stored_place : Store → List ℕ → Option ℕ
stored_place s x = get_by (λ k. slice_cmp nat_cmp x k.now) s.places

abbrev pub tables_in : Store → Lists
tables_in s = record { scalars16 = s.scalars16.items; scalars24 = s.scalars24.items }

-- the list is at a place in its table of the two
unfoldable pub StandsAt : Lists → List ℕ → ℕ → Type 0
StandsAt t x place = items_at (if is_narrow x then t.scalars16 else t.scalars24) place (length x) ≡ Some x

-- the store holds these lists, one after another
pub record Holds (lists : List (List ℕ)) (s : Store) : Type 0 where
  pub tables : tables_in s ≡ tables_of lists
  pub places : (x : List ℕ) → stored_place s x ≡ (if is_among x lists then Some (place_of lists x) else None)

-- the lists with x appended, if it isn't among them
unfoldable pub with_list : List (List ℕ) → List ℕ → List (List ℕ)
with_list lists x = if is_among x lists then lists else lists ++ x ∷ []

-- if a store held lists, it then holds x too
abbrev pub HoldsMore : Store → List ℕ → Store → Type 0
HoldsMore old x new = (lists : List (List ℕ)) → Holds lists old → Holds (with_list lists x) new

-- if the store before held lists, and this one others, it then holds more, except those of the store before
abbrev pub HoldsLists : Store → Store → List (List ℕ) → Store → Type 0
HoldsLists first old more new =
    (before lists : List (List ℕ)) → Holds (first_come before) first →
    Holds (apart_from before (first_come lists)) old → Holds (apart_from before (first_come (lists ++ more))) new

-- the stores hold the lists that no word spells: those of canonical data, and those that only the other kinds need
pub record AreStored (entries : List EntryValue) (a b : Store) : Type 0 where
  pub canonical : Holds (canonical_lists entries) a
  pub supplementary : Holds (supplementary_lists entries) b
