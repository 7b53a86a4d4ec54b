use Rattle.normalizer_text.proofs.scans.PassingLemmas.{MarksFrom}
use Rattle.normalizer_text.proofs.passing.last_starter.Given as goal

-- from here on there are only marks
abbrev pub invariant-loop-step : goal.invariant-loop-step
invariant-loop-step g l = MarksFrom g.U.Units.encoding l.bytes (g.U.Units.units l.units) l.end l.stop

abbrev pub decreases-loop-step : goal.decreases-loop-step
decreases-loop-step g l = l.stop
