-- What records build: data that pack them, or the smallest refusal.
use Rattle.std.specs.Prelude.{◌≡◌, ℕ, ◌<◌, List, [], Some, None, unwrap_or}
use Rattle.std.specs.List.Sorted.{IsPermutation}
use Rattle.normalizer_tables.specs.Characters.{class_of, list_of}
use Rattle.normalizer_tables.specs.conditions.Conditions.{item_limit}
use Rattle.normalizer_tables.specs.Pairs.{Pair, pair_of, AreRising as ArePairsRising}
use Rattle.normalizer_packing.specs.declared.Packed.{Packed}
use Rattle.normalizer_tables.specs.declared.entry.Kind.TheVariants.{Canonical, Compatibility, Mapper}
use Rattle.normalizer_tables.specs.Entries.{EntryValue}
use Rattle.normalizer_packing.specs.Packing.{Packs}
use Rattle.normalizer_packing.specs.Stored.{needed_items}
use Rattle.normalizer_records.specs.declared.records.BuildError.{BuildError}
use Rattle.normalizer_records.specs.declared.records.BuildError.TheVariants as error
use Rattle.normalizer_records.specs.RecordValue.{RecordValue, Uts46RecordValue}
use Rattle.normalizer_records.specs.Faults.{IsFirstRefusal}
use Rattle.normalizer_records.specs.Meaning.{canonical_list, class_of as recorded_class_of, compatibility_list}
use Rattle.normalizer_records.specs.Meaning.{mapper_list, pairs_of}
use Rattle.normalizer_records.specs.Recorded.{AreMadeOf}
use Rattle.normalizer_builder.specs.declared.demand.Demand.{Demand}
use Rattle.normalizer_builder.specs.Demands.{characters_of, error_of, IsFirstUnmet, KeepsMapping}
use Rattle.normalizer_builder.specs.RecordedClasses.{mapper_class_of}

-- data that pack records: an entry for each recorded character, and the pairs in order
pub record PacksRecords (records : List RecordValue) (uts46 : List Uts46RecordValue) (p : Packed) : Type 0 where
  pub entries : List EntryValue
  pub pairs : List Pair
  pub made : AreMadeOf records uts46 entries
  pub same_pairs : IsPermutation (pairs_of records) pairs
  pub rising_pairs : ArePairsRising pairs
  pub packs : Packs entries pairs p

-- the distinct lists that no word spells have more items than the limit
pub record HasTooManyItems (records : List RecordValue) (uts46 : List Uts46RecordValue) : Type 0 where
  pub entries : List EntryValue
  pub made : AreMadeOf records uts46 entries
  pub full : item_limit < needed_items entries

-- the data say of every character, and of every two, what the records mean
pub record MeansRecords (records : List RecordValue) (uts46 : List Uts46RecordValue) (p : Packed) : Type 0 where
  -- the full decompositions. In the mapper's data `ignored` is the list of characters that it ignores.
  pub canonical : (n : ℕ) → list_of (characters_of p Canonical) [] n ≡ canonical_list records n
  pub compatibility : (n : ℕ) → list_of (characters_of p Compatibility) [] n ≡ compatibility_list records n
  pub mapper : (ignored : List ℕ) (n : ℕ) →
      list_of (characters_of p Mapper) ignored n ≡ unwrap_or (mapper_list records uts46 n) ignored
  -- the recorded classes
  pub canonical_classes : (n : ℕ) → class_of (characters_of p Canonical) n ≡ recorded_class_of records n
  pub compatibility_classes : (n : ℕ) → class_of (characters_of p Compatibility) n ≡ recorded_class_of records n
  pub mapper_classes : (n : ℕ) → class_of (characters_of p Mapper) n ≡ mapper_class_of records uts46 n
  -- the pairs of canonical mappings, and one step of each mapping
  pub pairs : (first second : ℕ) → pair_of p.compositions first second ≡ pair_of (pairs_of records) first second
  pub steps : (n : ℕ) → KeepsMapping records p n

-- no refusal of the records holds, and these data pack them, mean what they mean, and meet all that is demanded
pub record Builds (records : List RecordValue) (uts46 : List Uts46RecordValue) (p : Packed) : Type 0 where
  pub unrefused : IsFirstRefusal records uts46 None
  pub packs : PacksRecords records uts46 p
  pub means : MeansRecords records uts46 p
  pub fit : IsFirstUnmet records p None

-- the smallest fault: the first of the records themselves, then too many items, then the first requirement that data
-- that pack them don't meet. `Memory` may come anywhere.
unfoldable pub IsSmallest : List RecordValue → List Uts46RecordValue → BuildError → Type 0
IsSmallest records uts46 error.Memory = Unit {0}
IsSmallest records uts46 error.TableFull = IsFirstRefusal records uts46 None × HasTooManyItems records uts46
IsSmallest records uts46 (error.Unfit marker condition) =
    IsFirstRefusal records uts46 None
    × ((p : Packed) × (d : Demand) × PacksRecords records uts46 p × IsFirstUnmet records p (Some d)
    × (error_of d ≡ error.Unfit marker condition))
IsSmallest records uts46 e = IsFirstRefusal records uts46 (Some e)
