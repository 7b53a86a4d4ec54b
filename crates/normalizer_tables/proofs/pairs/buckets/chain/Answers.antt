use Rattle.std.proofs.Common.{◌≡◌, ◌<◌, ◌+◌, ◌-◌, length, arith, sym}
use Rattle.std.proofs.Math.Nat.{mod-lt}
use Rattle.normalizer_tables.specs.Pairs.{pair_at}
use Rattle.normalizer_tables.specs.inner.Buckets.{bucket_count, bucket_at}
use Rattle.normalizer_tables.proofs.composites.BucketLemmas.{chained_more}
use Rattle.normalizer_tables.proofs.pairs.buckets.chain.Goals as goal

pub loop-chained-preserved : goal.loop-chained-preserved
unfolding bucket_at pair_at
loop-chained-preserved c =
    let count = length c.args.pairs.now in
    let place = count - 1 - c.loop-chained.chained in
    let below : c.loop-chained.chained < count = c.loop-chained-test.true in
    let from : count - c.loop-chained.chained ≡ place + 1 = omega arith in
    let to : place ≡ count - (c.loop-chained.chained + 1) = omega arith in
    let low : c.bucket_of-bucket.result < bucket_count = rw c.bucket_of-bucket.ensures (mod-lt _ (omega arith)) in
    rw (← to) (chained_more c.loop-chained.heads c.loop-chained.nexts c.args.pairs.now place c.bucket_of-bucket.result (omega arith) low (sym c.bucket_of-bucket.ensures)
    (rw from at c.loop-chained.invariant))
