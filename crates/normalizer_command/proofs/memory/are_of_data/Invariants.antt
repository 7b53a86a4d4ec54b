use Rattle.std.proofs.Common.{take}
use Rattle.std.specs.Prelude.{All}
use Rattle.normalizer_command.specs.inner.Kept.{kept_report, IsOfData}
use Rattle.normalizer_command.proofs.memory.are_of_data.Given as goal

-- those that were looked at are of data
abbrev pub invariant-loop-report : goal.invariant-loop-report
invariant-loop-report l = All (λ report. IsOfData (kept_report report)) (take l.report-index l.reports)
