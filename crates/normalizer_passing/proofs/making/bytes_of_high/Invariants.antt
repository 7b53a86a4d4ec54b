use Rattle.normalizer_passing.proofs.UnitLemmas.{AreOfHighTo}
use Rattle.normalizer_passing.proofs.making.bytes_of_high.Given as goal

abbrev pub invariant-loop-offset : goal.invariant-loop-offset
invariant-loop-offset l = AreOfHighTo l.numbers l.place l.block l.offset
