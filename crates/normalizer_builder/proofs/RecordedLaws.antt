-- The readings of records that build are those of the data that are built.
use Rattle.std.proofs.Common.{List}
use Rattle.normal_forms.specs.Alike.{AreAlike}
use Rattle.normalizer_tables.specs.Readings.{reading_by}
use Rattle.normalizer_tables.specs.declared.characters.IgnoredCharacters.TheVariants.{Dropped}
use Rattle.normalizer_packing.specs.declared.Packed.{Packed}
use Rattle.normalizer_tables.specs.declared.entry.Kind.TheVariants as kind
use Rattle.normalizer_packing.specs.ReadBack.{characters_of}
use Rattle.normalizer_records.specs.declared.records.Mappings.TheVariants as mappings
use Rattle.normalizer_records.specs.RecordValue.{RecordValue, Uts46RecordValue}
use Rattle.normalizer_builder.specs.Building.{MeansRecords}
use Rattle.normalizer_builder.specs.RecordedReading.{recorded_reading}

module _ (records : List RecordValue) (uts46 : List Uts46RecordValue) (p : Packed) (means : MeansRecords records uts46 p) where
  pub alike_canonical : AreAlike (reading_by (characters_of p kind.Canonical) Dropped p.compositions) (recorded_reading records mappings.Canonical)
  alike_canonical = record { lists = means.canonical; classes = means.canonical_classes; pairs = means.pairs }

  pub alike_compatibility : AreAlike (reading_by (characters_of p kind.Compatibility) Dropped p.compositions) (recorded_reading records mappings.All)
  alike_compatibility = record { lists = means.compatibility; classes = means.compatibility_classes; pairs = means.pairs }
