use Rattle.std.proofs.Common.{ap, arith}
use Rattle.std.proofs.lemmas.List.{get_or_read, take_all}
use Rattle.normalizer_records.specs.Ranges.{Uts46RangeValue, entries_of}
use Rattle.normalizer_builder.proofs.RangeSplits.{flat_map-next, none_split}
use Rattle.normalizer_builder.proofs.ranges.parts_of.Goals as goal

pub loop-range-init : goal.loop-range-init
loop-range-init c = rw (c.new-others.ensures.items, c.new-disallowed.ensures.items) (none_split c.args.records.now)

pub loop-range-preserved : goal.loop-range-preserved
loop-range-preserved c =
    let here = get_or_read c.args.ranges.now _ _ c.loop-range-test.true c.range-item.is c.range-item.result in
    let first = ap (λ (r : Uts46RangeValue). r.first) c.range.view_is in
    let end = ap (λ (r : Uts46RangeValue). r.end) c.range.view_is in
    rw (flat_map-next entries_of c.args.ranges.now c.loop-range.range-index c.range-item.result c.loop-range-test.true here, end)
    (c.in_ok-put_range.ensures _ _ c.loop-range.invariant (omega arith) (omega arith))

pub returns : goal.returns
returns c =
    (c.loop-range.end, rw (take_all c.loop-range.range-index c.args.ranges.now (omega (arith, c.loop-range-test.false))) at c.loop-range.invariant)
