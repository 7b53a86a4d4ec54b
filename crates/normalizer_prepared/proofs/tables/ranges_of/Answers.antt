use Rattle.std.proofs.Common.{arith, sym, ◌∙◌}
use Rattle.normalizer_tables.specs.Table.{code_points}
use Rattle.normalizer_prepared.proofs.RunRanges.{ranges_end, ranges_more, total_end, total_more}
use Rattle.normalizer_prepared.proofs.tables.ranges_of.Goals as goal

pub overflow_sub-next : goal.overflow_sub-next
unfolding code_points
overflow_sub-next c = omega (arith, c.loop-run.invariant.2)

pub returns-then-next-size : goal.returns-then-next-size
unfolding code_points
returns-then-next-size c = λ all.
    let l = c.loop-run in
    let total = total_more l.ranges.items l.next l.run-index c.args.runs.now l.invariant.0 l.invariant.1 (0, 0)
    c.loop-run-test.true in
    omega (arith, all, total, c.run_size-size.ensures.size, c.if-next-size.true, l.invariant.2)

pub loop-run-preserved : goal.loop-run-preserved
unfolding code_points
loop-run-preserved c =
    let l = c.loop-run in
    let runs = c.args.runs.now in (
      rw (c.in_ok-push.ensures.items, c.run_size-size.ensures.size)
          (ranges_more l.ranges.items l.next l.run-index runs l.invariant.0 l.invariant.1 (0, 0) c.loop-run-test.true),
      rw c.run_size-size.ensures.size
          (total_more l.ranges.items l.next l.run-index runs l.invariant.0 l.invariant.1 (0, 0) c.loop-run-test.true),
      omega (arith, c.if-next-size.false, l.invariant.2),
    )

pub returns-then-next-ne-CODE_POINTS : goal.returns-then-next-ne-CODE_POINTS
unfolding code_points
returns-then-next-ne-CODE_POINTS c = λ all.
    let l = c.loop-run in
    c.if-next-ne-CODE_POINTS.true
    (total_end l.ranges.items l.next l.run-index c.args.runs.now l.invariant.0 l.invariant.1 c.loop-run-test.false
    ∙ all)

pub returns : goal.returns
unfolding code_points
returns c =
    let l = c.loop-run in
    let runs = c.args.runs.now in (
      sym (total_end l.ranges.items l.next l.run-index runs l.invariant.0 l.invariant.1 c.loop-run-test.false)
          ∙ c.if-next-ne-CODE_POINTS.false,
      ranges_end l.ranges.items l.next l.run-index runs l.invariant.0 l.invariant.1 c.loop-run-test.false,
    )
