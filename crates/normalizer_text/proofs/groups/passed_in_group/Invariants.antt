use Rattle.std.proofs.Common.{◌-◌, ◌≤◌}
use Rattle.normalizer_text.proofs.scans.GroupLemmas.{IsInGroup}
use Rattle.normalizer_text.proofs.groups.passed_in_group.Given as goal

abbrev pub invariant-loop-end : goal.invariant-loop-end
invariant-loop-end l = IsInGroup l.bytes l.units l.from l.to l.end l.least × (l.least ≤ 255)

abbrev pub decreases-loop-end : goal.decreases-loop-end
decreases-loop-end l = l.to - l.end
