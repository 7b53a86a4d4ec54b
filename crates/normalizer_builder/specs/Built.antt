-- The data that were built.
use Rattle.std.specs.Prelude.{List}
use Rattle.normalizer_packing.specs.declared.Packed.{Packed}
use Rattle.normalizer_records.specs.RecordValue.{RecordValue, Uts46RecordValue}
use Rattle.normalizer_builder.specs.Building.{Builds}
use Rattle.normalizer_builder.specs.declared.built.Built.{Built}

-- the data of all markers, as each is held
abbrev pub data_in : Built → Packed
data_in b = b.packed

-- some records build these data
abbrev pub AreBuilt : Packed → Type 0
AreBuilt p = (records : List RecordValue) × (uts46 : List Uts46RecordValue) × Builds records uts46 p
