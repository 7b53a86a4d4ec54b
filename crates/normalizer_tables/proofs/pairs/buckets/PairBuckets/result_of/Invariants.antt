use Rattle.std.proofs.Common.{◌-◌, length}
use Rattle.normalizer_tables.proofs.composites.BucketLemmas.{HasPassed}
use Rattle.normalizer_tables.proofs.pairs.buckets.PairBuckets.result_of.Given as goal

abbrev pub invariant-loop-place : goal.invariant-loop-place
invariant-loop-place l = HasPassed l.self l.first l.second l.place

abbrev pub decreases-loop-place : goal.decreases-loop-place
decreases-loop-place l = length l.self - l.place
