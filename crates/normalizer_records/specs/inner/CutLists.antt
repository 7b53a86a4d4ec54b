-- Lists that are cut because they are too long anyway.
use Rattle.std.specs.Prelude.{◌≡◌, ◌↔◌, ℕ, ◌≤◌, Bool, List, length, Option, Some, None, unwrap_or}
use Rattle.normalizer_tables.specs.declared.step.Step.TheVariants.{Default}
use Rattle.normalizer_tables.specs.Entries.{EntryValue}
use Rattle.normalizer_records.specs.RecordValue.{RecordValue, Uts46RecordValue}
use Rattle.normalizer_records.specs.Faults.{IsTooLong, IsWrong}
use Rattle.normalizer_records.specs.Meaning.{canonical_list, class_of, compatibility_list, mapper_list}
use Rattle.normalizer_records.specs.Recorded.{IsOfCharacters, recorded_step}

-- a list of at most 18, or one of which the same is true as of the list
pub record StandsFor (records : List RecordValue) (list cut : List ℕ) : Type 0 where
  pub short : length list ≤ 18 → cut ≡ list
  pub wrong : (c : ℕ) (is_mark : Bool) → IsWrong records c is_mark cut ↔ IsWrong records c is_mark list
  pub long : IsTooLong cut ↔ IsTooLong list

-- the mapper has the same list, or none as well
abbrev pub MayStandFor : List RecordValue → Option (List ℕ) → Option (List ℕ) → Type 0
MayStandFor records None None = Unit {0}
MayStandFor records (Some list) (Some cut) = StandsFor records list cut
MayStandFor records _ _ = ⊥

-- an entry that says what the records say of its character; its lists may be cut
pub record IsCutEntry (records : List RecordValue) (uts46 : List Uts46RecordValue) (e : EntryValue) : Type 0 where
  pub class : e.class ≡ class_of records e.character
  pub canonical : StandsFor records (canonical_list records e.character) e.canonical
  pub compatibility : StandsFor records (compatibility_list records e.character) e.compatibility
  pub mapper : MayStandFor records (mapper_list records uts46 e.character) e.mapper
  pub mapping : e.mapping ≡ unwrap_or (recorded_step records e.character) Default
  pub characters : IsOfCharacters e
