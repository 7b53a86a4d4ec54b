use Rattle.std.proofs.Common.{◌≡◌, map, take}
use Rattle.normtool_command.specs.Rows.{mapper_entry_of}
use Rattle.normtool_command.proofs.set.mapper_records_of.Given as goal

-- the records of the rows so far
abbrev pub invariant-loop-place : goal.invariant-loop-place
invariant-loop-place l = l.records.items ≡ map (λ row. mapper_entry_of row.0 row.1.now row.2) (take l.place l.rows)
