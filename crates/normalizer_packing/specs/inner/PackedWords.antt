-- What words can be made of: entries, and stores of the lists that no word spells.
use Rattle.std.specs.Prelude.{◌≡◌, ◌≤◌, List, Option, Some, None}
use Rattle.normalizer_tables.specs.conditions.Conditions.{item_limit}
use Rattle.normalizer_packing.specs.declared.stores.Stores.{Stores}
use Rattle.normalizer_tables.specs.Entries.{EntryValue}
use Rattle.normalizer_tables.specs.Pairs.{Pair}
use Rattle.normalizer_tables.specs.Table.{Table}
use Rattle.normalizer_tables.specs.declared.entry.Kind.{Kind}
use Rattle.normalizer_packing.specs.declared.packed_words.OtherWords.{OtherWords}
use Rattle.normalizer_packing.specs.declared.packed_words.PackedWords.{PackedWords}
use Rattle.normalizer_packing.specs.Packing.{ArePackable, IsPackedWord}
use Rattle.normalizer_packing.specs.Stored.{needed_items}
use Rattle.normalizer_packing.specs.TableWords.{HasWords}
use Rattle.normalizer_packing.specs.inner.Stores.{AreStored}

-- a word can point to each list that none spells
pub record CanPoint (entries : List EntryValue) (s : Stores) : Type 0 where
  pub packable : ArePackable entries
  pub stored : AreStored entries s.canonical s.supplementary
  pub within : needed_items entries ≤ item_limit

-- the words of another kind of data, if there are some, are those of its characters
abbrev pub ArePacked : List EntryValue → List Pair → Option OtherWords → Type 0
ArePacked entries pairs None = Unit {0}
ArePacked entries pairs (Some o) = HasWords (IsPackedWord o.kind entries pairs) o.table.now

-- words made of these
pub record AreOf (entries : List EntryValue) (pairs : List Pair) (s : Stores) (w : PackedWords) : Type 0 where
  pub entries_are : w.entries.now ≡ entries
  pub pairs_are : w.compositions.now ≡ pairs
  pub stores_are : w.stores.now ≡ s

-- the words of data of a kind are those in a table
abbrev pub SharesWords : Kind → Table → Option OtherWords → Type 0
SharesWords kind t None = ⊥
SharesWords kind t (Some o) = (o.kind ≡ kind) × (o.table.now ≡ t)
