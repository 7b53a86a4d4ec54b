-- The records of the record sets.
use Rattle.std.specs.Prelude.{◌≢◌, List, [], map}
use Rattle.icu_normalizer.specs.BuildError.{BuildError}
use Rattle.icu_normalizer.specs.BuildError.TheVariants.{Memory}
use Rattle.icu_normalizer.specs.RecordValue.{RecordValue, Uts46RecordValue}
use Rattle.icu_normalizer.specs.Building.{IsSmallest}
use Rattle.normtool_command.specs.declared.set_table.TheConstants.{ROWS, MAPPER_ROWS}
use Rattle.normtool_command.specs.Rows.{entry_of, mapper_entry_of}
use Rattle.normtool_command.specs.declared.arguments.RecordSet.{RecordSet}
use Rattle.normtool_command.specs.declared.arguments.RecordSet.TheVariants.{Rows, Nothing}

-- the rows of the table, or none
abbrev pub records_of : RecordSet → List RecordValue
records_of Rows = map (λ row. entry_of row.0 row.1 row.2.now row.3) ROWS
records_of Nothing = []

-- the records of the mapper in a record set
abbrev pub mapper_records_of : RecordSet → List Uts46RecordValue
mapper_records_of Rows = map (λ row. mapper_entry_of row.0 row.1.now row.2) MAPPER_ROWS
mapper_records_of Nothing = []

-- no data are built from the records, and memory is not why
abbrev pub AreRefused : List RecordValue → List Uts46RecordValue → Type 0
AreRefused records uts46 = (e : BuildError) × (e ≢ Memory) × IsSmallest records uts46 e
