-- The places in the tables of lists that no word spells.
use Rattle.std.specs.Prelude.{ℕ, ◌+◌, ◌-◌, ◌*◌, ◌<◌, ◌≤◌, Bool, true, false, not, ◌&&◌, nat_lt, nat_le, List, [], ◌∷◌}
use Rattle.std.specs.Prelude.{◌++◌, length, drop, filter, if◌then◌else◌, Option, None, filter_map}
use Rattle.std.specs.List.{before_first, concat, list_all, list_any}
use Rattle.normalizer_tables.specs.conditions.Conditions.{item_count}
use Rattle.normalizer_tables.specs.Data.{Lists}
use Rattle.normalizer_tables.specs.declared.entry.Kind.{Kind}
use Rattle.normalizer_tables.specs.declared.entry.Kind.TheVariants.{Canonical, Compatibility, Mapper}
use Rattle.normalizer_packing.specs.declared.spelling.Spelling.TheVariants.{Final, Short, Listed}
use Rattle.normalizer_tables.specs.Entries.{EntryValue, class_in, own_list}
use Rattle.normalizer_packing.specs.Spelling.{list_eq, spelling}

-- the list goes into a table of 16-bit numbers
unfoldable pub is_narrow : List ℕ → Bool
is_narrow x = nat_le 2 (length x) && list_all (λ c. nat_le c 0xFFFF) x

-- the list has a length that a word can state
unfoldable pub HasLengthOfWord : List ℕ → Type 0
HasLengthOfWord x =
    elim (is_narrow x) as (λ _. Type 0) [ true ↦ length x ≤ 17 | false ↦ (0 < length x) × (length x ≤ 16) ]

-- the list of an entry, if its word doesn't spell it
unfoldable pub listed_of : (ℕ → ℕ) → Kind → EntryValue → Option (List ℕ)
listed_of class kind e = elim (spelling class e.character (own_list kind e)) [
  | Final w ↦ None
  | Short w ↦ None
  | Listed ↦ own_list kind e
]

-- the lists of one kind of data that no word spells
unfoldable pub listed_in : List EntryValue → Kind → List (List ℕ)
listed_in entries kind = filter_map (listed_of (class_in entries) kind) entries

-- the list is one of the lists
unfoldable pub is_among : List ℕ → List (List ℕ) → Bool
is_among x lists = list_any (list_eq x) lists

-- the lists in the order in which they first come, equal ones once
unfoldable pub first_come : List (List ℕ) → List (List ℕ)
first_come [] = []
first_come (x ∷ lists) = x ∷ filter (λ y. not (list_eq y x)) (first_come lists)

-- the lists except those among the ones before
unfoldable pub apart_from : List (List ℕ) → List (List ℕ) → List (List ℕ)
apart_from before lists = filter (λ x. not (is_among x before)) lists

-- the lists of canonical data, and those that only the other kinds need, of compatibility data before the mapper's: in
-- the order in which characters, as they are sorted, first need them
unfoldable pub canonical_lists : List EntryValue → List (List ℕ)
canonical_lists entries = first_come (listed_in entries Canonical)

-- the lists that compatibility data and the mapper's need besides those of canonical data, equal ones once
unfoldable pub supplementary_lists : List EntryValue → List (List ℕ)
supplementary_lists entries =
    apart_from (listed_in entries Canonical) (first_come (listed_in entries Compatibility ++ listed_in entries Mapper))

-- the list goes into this one of two tables: of 16-bit numbers, or of characters
abbrev pub stands_in : Bool → List ℕ → Bool
stands_in true x = is_narrow x
stands_in false x = not (is_narrow x)

-- the items of one table, in which the lists follow one another
unfoldable pub items_of : Bool → List (List ℕ) → List ℕ
items_of narrow lists = concat (filter (stands_in narrow) lists)

-- the two tables of lists
abbrev pub tables_of : List (List ℕ) → Lists
tables_of lists = record { scalars16 = items_of true lists; scalars24 = items_of false lists }

-- the place of a list in its table: after the items of the lists before it
unfoldable pub place_of : List (List ℕ) → List ℕ → ℕ
place_of lists x = length (items_of (is_narrow x) (before_first (list_eq x) lists))

-- how many items the tables have together
abbrev pub needed_items : List EntryValue → ℕ
needed_items entries =
    item_count (tables_of (canonical_lists entries)) + item_count (tables_of (supplementary_lists entries))

-- the item of a place of a list, if the two tables are put one after the other
unfoldable pub item_at : Lists → List ℕ → ℕ → ℕ
item_at t x place = if is_narrow x then place else length t.scalars16 + place

-- the first item of a list in the two tables of these lists, put one after the other
abbrev pub item_in : List (List ℕ) → List ℕ → ℕ
item_in lists x = item_at (tables_of lists) x (place_of lists x)

-- the first item of a list in the four tables, put one after another
unfoldable pub item_of : List EntryValue → List ℕ → ℕ
item_of entries x =
    if is_among x (canonical_lists entries) then item_in (canonical_lists entries) x
    else item_count (tables_of (canonical_lists entries)) + item_in (supplementary_lists entries) x

-- all members after the first are marks, and there are some
unfoldable pub has_marks_after_first : (ℕ → ℕ) → List ℕ → Bool
has_marks_after_first class x = nat_le 2 (length x) && list_all (λ c. nat_lt 0 (class c)) (drop 1 x)

-- the low bits of the list's length: beyond the least that its table has
unfoldable pub low_length : List ℕ → ℕ
low_length x = if is_narrow x then length x - 2 else length x - 1

-- the word, without flags, that points to the list x at an item
unfoldable pub pointing_word : (ℕ → ℕ) → List ℕ → ℕ → ℕ
pointing_word class x item = (item + 1) * 0x10000 + ((if has_marks_after_first class x then 0x10 else 0) + low_length x)
