use Rattle.std.proofs.Common.{arith, sym, ◌∙◌}
use Rattle.normalizer_text.proofs.steps.StepBoundaries.{boundary-more, step-some}
use Rattle.normalizer_calls.proofs.passthrough.RunParts.{IsFrontSegment-before, IsFrontSegment-last}
use Rattle.normalizer_calls.proofs.segment.read_segment.Goals as goal
use Rattle.normalizer_calls.proofs.segment.read_segment.Goals.{then-fits, else-fits}

pub returns-in_err-end-clause-room : goal.returns-in_err-end-clause-room
returns-in_err-end-clause-room g c = λ short.
    cc ((c.in_err-end.ensures.room (rw (← c.characters-characters.ensures) at c.what_is_buffered_is_the_form.ensures.short g.U.Units.encoding (g.U.Units.units c.args.units) short)).0)

pub loop-end-init : goal.loop-end-init
loop-end-init g c = (
  c.in_ok-end.ensures.read.front,
  λ _. (
    rw c.characters-characters.ensures at c.in_ok-end.ensures.read,
    λ short. (c.in_ok-end.ensures.room (rw (← c.characters-characters.ensures) at c.what_is_buffered_is_the_form.ensures.short g.U.Units.encoding (g.U.Units.units c.args.units) short)).1,
  ),
)

pub returns-in-Some-clause-segment : goal.returns-in-Some-clause-segment
returns-in-Some-clause-segment g c =
    IsFrontSegment-before g.U.Units.encoding (g.U.Units.units c.args.units) (g.N.Forming.beginning c.args.normalizer.now) c.before-in-Some.result c.loop-end.end
    c.before-in-Some.ensures.end c.loop-end.invariant.0 c.step_at-step.result c.before-in-Some.ensures.next c.step_at-step.ensures c.in-Some.ensures

pub returns-in-Some-clause-read : goal.returns-in-Some-clause-read
returns-in-Some-clause-read g c = λ fits. rw c.before-in-Some.ensures.end (c.loop-end.invariant.1 fits).0

pub returns-in-Some-clause-small : goal.returns-in-Some-clause-small
returns-in-Some-clause-small g c = λ short fits. (c.loop-end.invariant.1 fits).1 short

pub overflow_add-end : goal.overflow_add-end
overflow_add-end g c =
    omega (arith, c.len.ensures, step-some g.U.Units.encoding (g.U.Units.units c.args.units) c.loop-end.end c.step_at-step.result (omega (arith, c.len.ensures)) c.step_at-step.ensures)

pub loop-end-smaller : goal.loop-end-smaller
loop-end-smaller g c =
    omega (arith, c.len.ensures, step-some g.U.Units.encoding (g.U.Units.units c.args.units) c.loop-end.end c.step_at-step.result (omega (arith, c.len.ensures)) c.step_at-step.ensures)

pub loop-end-preserved : goal.loop-end-preserved
loop-end-preserved g c = (
  (
    omega (arith, c.loop-end.invariant.0.0),
    boundary-more g.U.Units.encoding (g.U.Units.units c.args.units) c.loop-end.end c.step_at-step.result c.loop-end.invariant.0.1 (omega (arith, c.len.ensures)) c.step_at-step.ensures,
  ),
  elim c.if-fits.branch [
    | then-fits w ↦ λ yes.
        let added = sym w.fits-is ∙ yes in
        let before = rw (← c.characters-characters.ensures) at (c.loop-end.invariant.1 w.if-fits.true).0 in
        let read = w.add-fits.ensures.read added g.U.Units.encoding (g.U.Units.units c.args.units) c.loop-end.end (omega (arith, c.len.ensures)) c.step_at-step.ensures before in
        (rw w.buffer-is (rw c.characters-characters.ensures at read), λ _. rw w.buffer-is (w.add-fits.ensures.small added))
    | else-fits w ↦ λ yes. absurd (cc (w.if-fits.false, w.fits-is, yes))
  ],
)

pub returns-clause-segment : goal.returns-clause-segment
returns-clause-segment g c =
    IsFrontSegment-last g.U.Units.encoding (g.U.Units.units c.args.units) (g.N.Forming.beginning c.args.normalizer.now) c.last.result c.loop-end.end
    c.last.ensures.end c.loop-end.invariant.0 c.last.ensures.next (omega (arith, c.len.ensures, c.loop-end-test.false))

pub returns-clause-read : goal.returns-clause-read
returns-clause-read g c = λ fits. rw c.last.ensures.end (c.loop-end.invariant.1 fits).0

pub returns-clause-small : goal.returns-clause-small
returns-clause-small g c = λ short fits. (c.loop-end.invariant.1 fits).1 short
