use Rattle.std.proofs.Common.{[], arith, sym, ◌∙◌}
use Rattle.normalizer_tables.specs.Characters.{has_class_form}
use Rattle.normalizer_tables.specs.Readings.{reading_by}
use Rattle.normalizer_tables.specs.Ignored.{ignored_list}
use Rattle.normalizer_text.proofs.steps.StepBoundaries.{step-some}
use Rattle.normalizer_iterators.proofs.reads.LazyLemmas.{class-reading_by, list-reading_by}
use Rattle.normalizer_iterators.proofs.segments.BufferedSegments.{MarksReadTo-fits, MarksReadTo-more, MarksReadTo-none}
use Rattle.normalizer_iterators.proofs.segment.read_marks.Goals as goal

pub loop-place-init : goal.loop-place-init
loop-place-init g c =
    let s = c.args.characters.now in
    MarksReadTo-none (has_class_form s) (reading_by s c.args.ignored []) g.U.Units.encoding (g.U.Units.units c.args.units) c.args.position c.args.waiting.now c.requires.boundary c.requires.classes

pub overflow_add-place : goal.overflow_add-place
overflow_add-place g c =
    let takes = step-some g.U.Units.encoding (g.U.Units.units c.args.units) c.loop-place.place c.step_at-step.result (omega (arith, c.len.ensures)) c.step_at-step.ensures in
    omega (arith, c.len.ensures)

pub loop-place-smaller : goal.loop-place-smaller
loop-place-smaller g c =
    let takes = step-some g.U.Units.encoding (g.U.Units.units c.args.units) c.loop-place.place c.step_at-step.result (omega (arith, c.len.ensures)) c.step_at-step.ensures in
    omega (arith, c.len.ensures)

pub loop-place-preserved : goal.loop-place-preserved
loop-place-preserved g c =
    let s = c.args.characters.now in
    let d = reading_by s c.args.ignored [] in
    let mark = c.step_at-step.result.character in
    let own = list-reading_by s c.args.ignored [] mark ∙ c.in-Some.ensures.itself (ignored_list c.args.ignored) in
    let class = c.in-Some.ensures.class ∙ sym (class-reading_by s c.args.ignored [] mark) in
    MarksReadTo-more (has_class_form s) d g.U.Units.encoding (g.U.Units.units c.args.units) c.args.position c.args.waiting.now c.loop-place.place c.step_at-step.result c.loop-place.waiting
    c.loop-place.invariant (omega (arith, c.len.ensures)) c.step_at-step.ensures own (omega (arith, c.in-Some.ensures.mark, class)) _
    (λ rest. c.in_ok-push_mark.ensures.text d rest) (c.in_ok-push_mark.ensures.classes d c.loop-place.invariant.agrees class) c.in_ok-push_mark.ensures.held

pub returns-in_err-push_mark-clause-room : goal.returns-in_err-push_mark-clause-room
returns-in_err-push_mark-clause-room g c = λ fits.
    let s = c.args.characters.now in
    let d = reading_by s c.args.ignored [] in
    let mark = c.step_at-step.result.character in
    let own = list-reading_by s c.args.ignored [] mark ∙ c.in-Some.ensures.itself (ignored_list c.args.ignored) in
    let class = c.in-Some.ensures.class ∙ sym (class-reading_by s c.args.ignored [] mark) in
    cc (c.in_err-push_mark.ensures.succeeds
    (MarksReadTo-fits (has_class_form s) d g.U.Units.encoding (g.U.Units.units c.args.units) c.args.position c.args.waiting.now c.loop-place.place c.step_at-step.result c.loop-place.waiting
    c.loop-place.invariant (omega (arith, c.len.ensures)) c.step_at-step.ensures own (omega (arith, c.in-Some.ensures.mark, class)) fits.0 fits.1))
