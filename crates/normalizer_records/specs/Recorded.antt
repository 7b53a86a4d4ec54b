-- What is packed of recorded characters.
use Rattle.std.specs.Prelude.{◌≡◌, ◌<◌, ℕ, List, ◌++◌, map, All, Contains, IfSome, Option, None, unwrap_or}
use Rattle.std.specs.Char.{IsScalar}
use Rattle.std.specs.List.Sorted.{IsPermutation, IsStrictlyIncreasing}
use Rattle.normal_forms.specs.Reading.{IsText}
use Rattle.normalizer_tables.specs.Pairs.{Pair, AreRising as ArePairsRising}
use Rattle.normalizer_tables.specs.declared.step.Step.{Step}
use Rattle.normalizer_tables.specs.declared.step.Step.TheVariants.{Default}
use Rattle.normalizer_tables.specs.Steps.{step_to}
use Rattle.normalizer_tables.specs.Entries.{EntryValue}
use Rattle.normalizer_records.specs.RecordValue.{RecordValue, Uts46RecordValue}
use Rattle.normalizer_records.specs.Faults.{IsFirstRefusal}
use Rattle.normalizer_records.specs.Meaning.{class_of, canonical_list, canonical_mapping_of, compatibility_list}
use Rattle.normalizer_records.specs.Meaning.{mapper_list, pairs_of}

-- the characters of all records of either kind
abbrev pub recorded_characters : List RecordValue → List Uts46RecordValue → List ℕ
recorded_characters records uts46 = map (λ r. r.c) records ++ map (λ r. r.c) uts46

-- each character that has a record of either kind once, in order
pub record ListsCharacters (records : List RecordValue) (uts46 : List Uts46RecordValue) (characters : List ℕ)
    : Type 0 where
  pub all : All (Contains characters) (recorded_characters records uts46)
  pub recorded : All (Contains (recorded_characters records uts46)) characters
  pub rising : IsStrictlyIncreasing characters

-- the recorded canonical mapping, if it is of one character or two
unfoldable pub recorded_step : List RecordValue → ℕ → Option Step
recorded_step records c = step_to (canonical_mapping_of records c)

-- what records say of a character, as it is packed
unfoldable pub entry_for : List RecordValue → List Uts46RecordValue → ℕ → EntryValue
entry_for records uts46 c = record {
  character = c;
  class = class_of records c;
  canonical = canonical_list records c;
  compatibility = compatibility_list records c;
  mapper = mapper_list records uts46 c;
  mapping = unwrap_or (recorded_step records c) Default;
}

-- an entry of scalar values (D76), whose class has 8 bits
pub record IsOfCharacters (e : EntryValue) : Type 0 where
  pub character : IsScalar e.character
  pub class : e.class < 0x100
  pub canonical : IsText e.canonical
  pub compatibility : IsText e.compatibility
  pub mapper : IfSome e.mapper IsText

-- an entry for each character that has a record of either kind, in their order
pub record AreMadeOf (records : List RecordValue) (uts46 : List Uts46RecordValue) (entries : List EntryValue)
    : Type 0 where
  pub characters : List ℕ
  pub listed : ListsCharacters records uts46 characters
  pub made : entries ≡ map (entry_for records uts46) characters

-- what is packed of records of which no refusal holds: their entries, and their pairs in order
pub record AreExpanded (records : List RecordValue) (uts46 : List Uts46RecordValue) (entries : List EntryValue)
    (pairs : List Pair) : Type 0 where
  pub unrefused : IsFirstRefusal records uts46 None
  pub made : AreMadeOf records uts46 entries
  pub characters : All IsOfCharacters entries
  pub same_pairs : IsPermutation (pairs_of records) pairs
  pub rising_pairs : ArePairsRising pairs
