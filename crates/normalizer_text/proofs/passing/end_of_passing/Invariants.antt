use Rattle.std.proofs.Common.{◌-◌, ◌≤◌, length}
use Rattle.normalizer_text.specs.Passing.{PassesTo}
use Rattle.normalizer_text.proofs.passing.end_of_passing.Given as goal

abbrev pub invariant-loop-end : goal.invariant-loop-end
invariant-loop-end g l = PassesTo g.U.Units.encoding l.bytes (g.U.Units.units l.units) l.end l.least × (l.least ≤ 255)

abbrev pub decreases-loop-end : goal.decreases-loop-end
decreases-loop-end g l = length (g.U.Units.units l.units) - l.end
