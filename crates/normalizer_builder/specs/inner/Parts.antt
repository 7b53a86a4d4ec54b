-- What private contracts say of packed data, by their entries and by each record.
use Rattle.std.specs.Prelude.{◌≡◌, List, All, Some, IfSome}
use Rattle.normalizer_tables.specs.Steps.{step_of, step_to}
use Rattle.normalizer_tables.specs.declared.entry.Kind.TheVariants as kind
use Rattle.normalizer_packing.specs.declared.Packed.{Packed}
use Rattle.normalizer_records.specs.declared.records.Mappings.TheVariants.{Canonical}
use Rattle.normalizer_records.specs.Meaning.{mapping_among}
use Rattle.normalizer_records.specs.RecordValue.{RecordValue, Uts46RecordValue}
use Rattle.normalizer_records.specs.Recorded.{IsOfCharacters}
use Rattle.normalizer_builder.specs.Building.{PacksRecords}
use Rattle.normalizer_builder.specs.Demands.{characters_of}

-- data that pack records, whose entries are of characters
pub record PacksCharacters (records : List RecordValue) (uts46 : List Uts46RecordValue) (p : Packed) : Type 0 where
  pub packs : PacksRecords records uts46 p
  pub characters : All IsOfCharacters packs.entries

-- one step of its character is the canonical mapping of a record, if it has one
abbrev pub KeepsRecord : Packed → RecordValue → Type 0
KeepsRecord p r = IfSome (step_to (mapping_among Canonical r))
    (λ s. step_of (characters_of p kind.Canonical) p.supplement r.c ≡ Some s)
