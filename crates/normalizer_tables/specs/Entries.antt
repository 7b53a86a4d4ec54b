-- What is packed: for each character its lists in the three kinds of data, its class, and its mapping.
use Rattle.std.specs.Prelude.{ℕ, ◌<◌, ◌==◌, List, [], ◌∷◌, AllPairs, find, Option, Some, None, unwrap_or}
use Rattle.normal_forms.specs.Reading.{Reading}
use Rattle.normalizer_tables.specs.declared.entry.Kind.{Kind}
use Rattle.normalizer_tables.specs.declared.entry.Kind.TheVariants.{Canonical, Compatibility, Mapper}
use Rattle.normalizer_tables.specs.declared.step.Step.{Step}
use Rattle.normalizer_tables.specs.Pairs.{Pair, pair_of}

-- a character, its class, its full decompositions, and its recorded canonical mapping. The mapper ignores a character
-- without a list of its own.
pub record EntryValue : Type 0 where
  pub character : ℕ
  pub class : ℕ
  pub canonical : List ℕ
  pub compatibility : List ℕ
  pub mapper : Option (List ℕ)
  pub mapping : Step

-- the entries are sorted, without duplicates, by character
abbrev pub AreRising : List EntryValue → Type 0
AreRising entries = AllPairs (λ e f. e.character < f.character) entries

-- the entry of a character
unfoldable pub entry_of : List EntryValue → ℕ → Option EntryValue
entry_of entries n = find (λ e. e.character == n) entries

-- none: the character is ignored
abbrev pub own_list : Kind → EntryValue → Option (List ℕ)
own_list Canonical e = Some e.canonical
own_list Compatibility e = Some e.compatibility
own_list Mapper e = e.mapper

-- a character without an entry is a starter that decomposes to itself
unfoldable pub class_in : List EntryValue → ℕ → ℕ
class_in entries n = elim (entry_of entries n) [ Some e ↦ e.class | None ↦ 0 ]

-- the list of a character in one kind of data; without an entry, itself
unfoldable pub list_in : Kind → List EntryValue → ℕ → Option (List ℕ)
list_in kind entries n = elim (entry_of entries n) [ Some e ↦ own_list kind e | None ↦ Some (n ∷ []) ]

-- the list of a character: an ignored one has none
unfoldable pub kept_list : Kind → List EntryValue → ℕ → List ℕ
kept_list kind entries n = unwrap_or (list_in kind entries n) []

-- the reading that entries and pairs make for composition, which looks at no lists
abbrev pub reading_of_entries : List EntryValue → List Pair → Reading
reading_of_entries entries pairs = record { list = λ n. n ∷ []; class = class_in entries; pair = pair_of pairs }
