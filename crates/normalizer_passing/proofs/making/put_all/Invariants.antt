use Rattle.normalizer_passing.specs.inner.Kept.{ArePut}
use Rattle.normalizer_passing.proofs.making.put_all.Given as goal

abbrev pub invariant-loop-k : goal.invariant-loop-k
invariant-loop-k l = ArePut l.more l.blocks.items l.k l.numbers.items
