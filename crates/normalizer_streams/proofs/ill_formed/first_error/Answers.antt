use Rattle.std.proofs.Common.{◌<◌, ◌+◌, length, arith, ap, subst, sym, take, ◌∙◌}
use Rattle.std.proofs.lemmas.List.{take_all}
use Rattle.icu_normalizer.specs.DecodingSteps.{IsWellFormed}
use Rattle.icu_normalizer.specs.Encodings.{Encoding, first_in}
use Rattle.icu_normalizer.proofs.StepBoundaries.{step-some}
use Rattle.normalizer_streams.proofs.ErrorLemmas.{well_formed-more, IsWellFormed-nil}
use Rattle.normalizer_streams.proofs.ill_formed.first_error.Goals as goal

pub loop-place-init : goal.loop-place-init
loop-place-init c = record { within = omega arith; front = IsWellFormed-nil Encoding.Utf8 }

pub overflow_add-place : goal.overflow_add-place
overflow_add-place c =
    omega (arith, step-some Encoding.Utf8 c.args.bytes.now c.loop-place.place c.step_at-step.result (omega arith) c.step_at-step.ensures)

pub loop-place-smaller : goal.loop-place-smaller
loop-place-smaller c =
    omega (arith, step-some Encoding.Utf8 c.args.bytes.now c.loop-place.place c.step_at-step.result (omega arith) c.step_at-step.ensures)

pub loop-place-preserved : goal.loop-place-preserved
loop-place-preserved c =
    let units = c.args.bytes.now in
    let e = Encoding.Utf8 in
    let within : c.loop-place.place < length units = omega arith in
    let takes = step-some e units c.loop-place.place c.step_at-step.result within c.step_at-step.ensures in
    record {
      within = omega (arith, takes);
      front = subst (λ s. IsWellFormed (first_in e) (take (c.loop-place.place + s.width) units)) (sym c.step_at-step.ensures)
          (well_formed-more e units c.loop-place.place within c.loop-place.invariant.front (sym (ap (λ s. s.is_error) c.step_at-step.ensures) ∙ c.if-step.false));
    }

pub returns-clause-none : goal.returns-clause-none
returns-clause-none c =
    let units = c.args.bytes.now in
    subst (IsWellFormed (first_in Encoding.Utf8)) (take_all c.loop-place.place units (omega arith)) c.loop-place.invariant.front
