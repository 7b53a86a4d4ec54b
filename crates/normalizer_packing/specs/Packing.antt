-- Data that pack entries: any two that pack the same are equal.
use Rattle.std.specs.Prelude.{◌≡◌, ℕ, ◌≤◌, List, All}
use Rattle.normalizer_tables.specs.conditions.Conditions.{item_limit}
use Rattle.normalizer_tables.specs.Data.{Decompositions}
use Rattle.normalizer_tables.specs.Pairs.{Pair}
use Rattle.normalizer_packing.specs.declared.Packed.{Packed}
use Rattle.normalizer_tables.specs.declared.entry.Kind.{Kind}
use Rattle.normalizer_tables.specs.declared.entry.Kind.TheVariants.{Canonical, Compatibility, Mapper}
use Rattle.normalizer_packing.specs.declared.spelling.Spelling.{Spelling}
use Rattle.normalizer_packing.specs.declared.spelling.Spelling.TheVariants.{Final, Short, Listed}
use Rattle.normalizer_packing.specs.Caps.{IsCap}
use Rattle.normalizer_tables.specs.Entries.{EntryValue, AreRising, class_in, list_in, kept_list}
use Rattle.normalizer_tables.specs.Entries.{reading_of_entries}
use Rattle.normalizer_packing.specs.Flags.{IsFlagged, without_flags}
use Rattle.normalizer_packing.specs.Spelling.{spelling}
use Rattle.normalizer_packing.specs.StepWords.{PacksSteps}
use Rattle.normalizer_packing.specs.Stored.{HasLengthOfWord, canonical_lists, item_of, listed_in, needed_items}
use Rattle.normalizer_packing.specs.Stored.{pointing_word, supplementary_lists, tables_of}
use Rattle.normalizer_packing.specs.TableWords.{HasWords}

-- w without its flags, by the spelling of the list x
abbrev pub IsSpelled : List EntryValue → List ℕ → Spelling → ℕ → Type 0
IsSpelled entries x (Final word) w = w ≡ word
IsSpelled entries x (Short word) w = without_flags w ≡ word
IsSpelled entries x Listed w = without_flags w ≡ pointing_word (class_in entries) x (item_of entries x)

-- what flags w has: a final word has its own
abbrev pub HasFlags : Kind → List EntryValue → List Pair → ℕ → Spelling → ℕ → Type 0
HasFlags kind entries pairs n (Final word) w = Unit {0}
HasFlags kind entries pairs n _ w = IsFlagged (reading_of_entries entries pairs) pairs n (kept_list kind entries n) w

-- w is the word of n
pub record IsPackedWord (kind : Kind) (entries : List EntryValue) (pairs : List Pair) (n w : ℕ) : Type 0 where
  pub spelled : IsSpelled entries (kept_list kind entries n) (spelling (class_in entries) n (list_in kind entries n)) w
  pub flags : HasFlags kind entries pairs n (spelling (class_in entries) n (list_in kind entries n)) w

-- one kind of decomposition data
pub record PacksKind (kind : Kind) (entries : List EntryValue) (pairs : List Pair)
    (d : Decompositions) : Type 0 where
  pub words : HasWords (IsPackedWord kind entries pairs) d.table
  pub cap : IsCap kind entries pairs d.cap

-- the entries can be packed: they are sorted, and a word has room for the length of each list in a table
pub record ArePackable (entries : List EntryValue) : Type 0 where
  pub rising : AreRising entries
  pub lengths : (kind : Kind) → All HasLengthOfWord (listed_in entries kind)

-- the data pack these entries and pairs
pub record Packs (entries : List EntryValue) (pairs : List Pair) (p : Packed) : Type 0 where
  pub canonical : PacksKind Canonical entries pairs p.canonical
  pub compatibility : PacksKind Compatibility entries pairs p.compatibility
  pub mapper : PacksKind Mapper entries pairs p.mapper
  pub tables : p.tables ≡ tables_of (canonical_lists entries)
  pub supplementary_tables : p.supplementary_tables ≡ tables_of (supplementary_lists entries)
  pub within : needed_items entries ≤ item_limit
  pub compositions : p.compositions ≡ pairs
  pub supplement : PacksSteps entries p.supplement
