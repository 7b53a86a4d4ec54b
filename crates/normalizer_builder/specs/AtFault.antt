-- Which record is at fault, if no data are built.
use Rattle.std.specs.Prelude.{◌≡◌, ℕ, List, Option, Some, None}
use Rattle.std.specs.Option.{option_map}
use Rattle.normalizer_tables.specs.declared.condition.Condition.{Condition}
use Rattle.normalizer_tables.specs.declared.condition.Condition.TheVariants.{Pairs}
use Rattle.normalizer_tables.specs.declared.entry.Kind.{Kind}
use Rattle.normalizer_tables.specs.declared.entry.Kind.TheVariants.{Canonical, Compatibility, Mapper}
use Rattle.normalizer_check.specs.EachCharacter.{IsFirstBreaking, IsFirstUncomposable}
use Rattle.normalizer_packing.specs.declared.Packed.{Packed}
use Rattle.normalizer_records.specs.declared.at_fault.RecordAtFault.{RecordAtFault}
use Rattle.normalizer_records.specs.declared.at_fault.RecordAtFault.TheVariants.{OfCharacter, OfMapper}
use Rattle.normalizer_records.specs.declared.records.BuildError.{BuildError}
use Rattle.normalizer_records.specs.declared.records.BuildError.TheVariants as error
use Rattle.normalizer_records.specs.RecordValue.{RecordValue, Uts46RecordValue}
use Rattle.normalizer_records.specs.AtFault.{IsCharacterOfFirst, IsFirstAtFault as IsFirstRecordAtFault}
use Rattle.normalizer_builder.specs.declared.demand.Demand.{Demand}
use Rattle.normalizer_builder.specs.declared.demand.Demand.TheVariants.{Asks, KeepsMappings}
use Rattle.normalizer_builder.specs.Building.{PacksRecords}
use Rattle.normalizer_builder.specs.Demands.{characters_of, IsFirstUnmet, KeepsMapping, loaded_of}

-- the record that says what data of a kind say of a character
abbrev pub record_of_kind : Kind → ℕ → RecordAtFault
record_of_kind Canonical c = OfCharacter c
record_of_kind Compatibility c = OfCharacter c
record_of_kind Mapper c = OfMapper c

-- the first character that breaks the condition, by the data of a kind: of the condition on pairs, the first of their
-- firsts and results
unfoldable pub IsFirstOfKind : Packed → Kind → Condition → Option ℕ → Type 0
IsFirstOfKind p kind Pairs n = IsFirstUncomposable (characters_of p kind) p.compositions n
IsFirstOfKind p kind c n = IsFirstBreaking (loaded_of p kind) c n

-- the first record that keeps packed data from meeting the requirement; none if no single one does
unfoldable pub IsFirstAgainst : List RecordValue → Packed → Demand → Option RecordAtFault → Type 0
IsFirstAgainst records p (Asks c kind) o =
    (n : Option ℕ) × IsFirstOfKind p kind c n × (o ≡ option_map (record_of_kind kind) n)
IsFirstAgainst records p KeepsMappings o =
    (n : Option ℕ) × IsCharacterOfFirst (λ r. r.c) (λ r. ¬ KeepsMapping records p r.c) records n
    × (o ≡ option_map OfCharacter n)

-- the first that keeps the data that pack the records from meeting the first requirement that they don't meet
unfoldable pub IsFirstUnfit : List RecordValue → List Uts46RecordValue → Option RecordAtFault → Type 0
IsFirstUnfit records uts46 o =
    (p : Packed) × (d : Demand) × PacksRecords records uts46 p × IsFirstUnmet records p (Some d)
    × IsFirstAgainst records p d o

-- the first record at fault, if no data are built because of the error
unfoldable pub IsFirstAtFault : List RecordValue → List Uts46RecordValue → BuildError → Option RecordAtFault → Type 0
IsFirstAtFault records uts46 (error.Unfit marker condition) o = IsFirstUnfit records uts46 o
IsFirstAtFault records uts46 error.TableFull o = o ≡ None
IsFirstAtFault records uts46 error.Memory o = o ≡ None
IsFirstAtFault records uts46 e o = IsFirstRecordAtFault records uts46 e o
