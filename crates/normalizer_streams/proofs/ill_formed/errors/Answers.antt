use Rattle.std.proofs.Common.{◌<◌, length, arith}
use Rattle.icu_normalizer.specs.Encodings.{Encoding}
use Rattle.icu_normalizer.proofs.StepBoundaries.{step-some}
use Rattle.normalizer_streams.proofs.ErrorLemmas.{errors-end, errors-step, one-most}
use Rattle.normalizer_streams.proofs.ill_formed.errors.Goals as goal

pub overflow_add-place : goal.overflow_add-place
overflow_add-place c =
    omega (arith, step-some Encoding.Utf8 c.args.bytes.now c.loop-place.place c.step_at-step.result (omega arith) c.step_at-step.ensures)

pub loop-place-smaller : goal.loop-place-smaller
loop-place-smaller c =
    omega (arith, step-some Encoding.Utf8 c.args.bytes.now c.loop-place.place c.step_at-step.result (omega arith) c.step_at-step.ensures)

pub loop-place-preserved : goal.loop-place-preserved
loop-place-preserved c =
    let units = c.args.bytes.now in
    let within : c.loop-place.place < length units = omega arith in
    let takes = step-some Encoding.Utf8 units c.loop-place.place c.step_at-step.result within c.step_at-step.ensures in
    record {
      within = omega (arith, takes);
      fewer = omega (arith, takes, c.one_if-count.ensures, one-most c.step_at-step.result.is_error);
      all = omega (arith, c.loop-place.invariant.all, c.one_if-count.ensures, errors-step Encoding.Utf8 units c.loop-place.place c.step_at-step.result within c.step_at-step.ensures);
    }

pub returns : goal.returns
returns c = omega (arith, c.loop-place.invariant.all, errors-end Encoding.Utf8 c.args.bytes.now c.loop-place.place (omega arith))
