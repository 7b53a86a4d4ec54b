-- The result of a run of a command over a record set.
use Rattle.std.specs.Prelude.{ℕ, List, Option, Some, Result, Err, ⊤, ◌⊎◌}
use Rattle.icu_normalizer.specs.Building.{Builds}
use Rattle.icu_normalizer.specs.Packed.{Packed}
use Rattle.icu_normalizer.specs.Uts46.{uts46_data}
use Rattle.icu_normalizer.specs.HeldForms.{held_for_forms}
use Rattle.normalizer_io.specs.declared.outcome.Answer.{Answer}
use Rattle.normtool_command.specs.declared.ending.ToolFault.{ToolFault}
use Rattle.normtool_command.specs.declared.ending.ToolFault.TheVariants.{Memory, Data}
use Rattle.normtool_command.specs.declared.arguments.Command.{Command}
use Rattle.normtool_command.specs.declared.arguments.RecordSet.{RecordSet}
use Rattle.normtool_command.specs.Needs.{AreNeedsMet, Held, held}
use Rattle.normtool_command.specs.Outcome.{IsOutcome}
use Rattle.normtool_command.specs.RecordSets.{AreRefused, mapper_records_of, records_of}

-- what built data hold
abbrev pub held_by : Packed → Held
held_by p =
    let tables = Some p.tables in
    let supplementary = Some p.supplementary_tables in
    let pairs = Some p.compositions in
    held (held_for_forms (Some p.canonical) tables (Some p.compatibility) supplementary pairs)
    (uts46_data (Some p.mapper) tables supplementary pairs)

-- the records build data, and this is the outcome of the command over them
abbrev pub IsOutcomeOfBuilt : RecordSet → Command → (left before after : Option (List ℕ)) → Result Answer ToolFault
    → Type 0
IsOutcomeOfBuilt set command left before after result =
    (p : Packed) × Builds (records_of set) (mapper_records_of set) p
    × IsOutcome command (held_by p) left before after result × AreNeedsMet command (held_by p) result

-- no data are built
abbrev pub IsUnbuilt : RecordSet → Result Answer ToolFault → Type 0
IsUnbuilt set (Err Memory) = ⊤
IsUnbuilt set (Err Data) = AreRefused (records_of set) (mapper_records_of set)
IsUnbuilt set other = ⊥

-- the outcome of a command over a record set: that over the data that it builds, or that none are built
abbrev pub IsOutcomeOver : RecordSet → Command → (left before after : Option (List ℕ)) → Result Answer ToolFault
    → Type 0
IsOutcomeOver set command left before after result =
    IsOutcomeOfBuilt set command left before after result ⊎ IsUnbuilt set result
