use Rattle.std.proofs.Common.{◌≡◌, ◌++◌, refl}
use Rattle.normalizer_records.specs.Ranges.{entries_at, entries_of}
use Rattle.normalizer_records.proofs.RangeLemmas.{one_more, no_more}
use Rattle.normalizer_records.proofs.ranges.push_records.Goals as goal

pub loop-code-init : goal.loop-code-init
unfolding entries_of
loop-code-init c = rw (← c.range.view_is) refl

pub loop-code-preserved : goal.loop-code-preserved
loop-code-preserved c =
    let e : c.push_record.new.records.items
    ≡ c.loop-code.records.items ++ entries_at c.args.range.now.status c.loop-code.code
    = rw (← c.range.view_is) c.in_ok-push_record.ensures in
    rw e
    (one_more (entries_at c.args.range.now.status) c.loop-code.records.items _ c.loop-code.code c.range.inside.end
    c.loop-code-test.true c.loop-code.invariant)

pub returns : goal.returns
returns c = no_more (entries_at c.args.range.now.status) _ _ _ _ c.loop-code-test.false c.loop-code.invariant
