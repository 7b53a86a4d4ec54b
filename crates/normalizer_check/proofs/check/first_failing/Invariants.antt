use Rattle.std.proofs.Common.{◌-◌, ◌≤◌}
use Rattle.normalizer_check.proofs.conditions.FirstFailing.{FailsFirst}
use Rattle.normalizer_check.proofs.check.first_failing.Given as goal

abbrev pub invariant-loop-from : goal.invariant-loop-from
invariant-loop-from l = record {
  within : l.from ≤ 0x110001;
  first : FailsFirst l.data l.conditions l.from l.failing;
}

abbrev pub decreases-loop-from : goal.decreases-loop-from
decreases-loop-from l = 0x110001 - l.from
