use Rattle.std.proofs.Common.{◌-◌, length}
use Rattle.normalizer_tables.specs.inner.Buckets.{AreChainedFrom}
use Rattle.normalizer_tables.proofs.pairs.buckets.chain.Given as goal

abbrev pub invariant-loop-chained : goal.invariant-loop-chained
invariant-loop-chained l = AreChainedFrom (length l.pairs - l.chained) l.heads l.nexts l.pairs
