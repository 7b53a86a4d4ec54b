use Rattle.std.proofs.Common.{arith}
use Rattle.normalizer_passing.specs.inner.Kept.{AreOfHigh}
use Rattle.normalizer_passing.proofs.UnitLemmas.{AreOfHighTo-none}
use Rattle.normalizer_passing.proofs.making.bytes_of_high.Goals as goal

pub loop-offset-init : goal.loop-offset-init
loop-offset-init c = AreOfHighTo-none c.args.numbers.now c.args.place

pub returns : goal.returns
unfolding AreOfHigh
returns c = λ j below some. c.loop-offset.invariant.done j (omega arith) some
