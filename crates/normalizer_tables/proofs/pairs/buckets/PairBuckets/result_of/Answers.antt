use Rattle.std.proofs.Common.{◌∙◌, ◌<◌, ◌≤◌, length, arith, sym}
use Rattle.normalizer_tables.proofs.composites.BucketLemmas.{passed_first, passed_more, listed-passed, listed-none}
use Rattle.normalizer_tables.proofs.pairs.buckets.PairBuckets.result_of.Goals as goal

pub loop-place-init : goal.loop-place-init
loop-place-init c = rw (← c.self.view_is) (passed_first _ _ _ _ _ c.self.invariant _ _ c.bucket_of.ensures c.index-place.ensures)

pub returns-then-is_of : goal.returns-then-is_of
returns-then-is_of c =
    let within : c.loop-place.place < length c.self.inside.pairs.items = omega (arith, c.loop-place-test.true, c.len.ensures, c.self.inside.pairs.ok.0) in
    rw (← c.self.view_is) (sym (listed-passed _ _ _ _ _ (rw (← c.self.view_is) at c.loop-place.invariant) within c.index-pair.ensures (sym c.is_of.ensures ∙ c.if-is_of.true)))

pub loop-place-preserved : goal.loop-place-preserved
loop-place-preserved c =
    let within : c.loop-place.place < length c.self.inside.pairs.items = omega (arith, c.loop-place-test.true, c.len.ensures, c.self.inside.pairs.ok.0) in
    rw (← c.self.view_is) (passed_more _ _ _ _ _ c.self.invariant _ _ _ (rw (← c.self.view_is) at c.loop-place.invariant) within c.index-pair.ensures (sym c.is_of.ensures ∙ c.if-is_of.false) c.index-place-in-loop-place.ensures)

pub returns : goal.returns
returns c =
    let past : length c.self.inside.pairs.items ≤ c.loop-place.place = omega (arith, c.loop-place-test.false, c.len.ensures, c.self.inside.pairs.ok.0) in
    rw (← c.self.view_is) (sym (listed-none _ _ _ _ (rw (← c.self.view_is) at c.loop-place.invariant) past))
