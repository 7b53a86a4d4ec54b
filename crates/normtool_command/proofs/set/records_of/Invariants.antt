use Rattle.std.proofs.Common.{◌≡◌, map, take}
use Rattle.normtool_command.specs.Rows.{entry_of}
use Rattle.normtool_command.proofs.set.records_of.Given as goal

-- the records of the rows so far
abbrev pub invariant-loop-place : goal.invariant-loop-place
invariant-loop-place l = l.records.items ≡ map (λ row. entry_of row.0 row.1 row.2.now row.3) (take l.place l.rows)
