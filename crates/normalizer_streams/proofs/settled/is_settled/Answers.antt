use Rattle.std.proofs.Common.{sym, subst, ap, ◌∙◌}
use Rattle.std.proofs.lemmas.Bool.{not-true}
use Rattle.icu_normalizer.specs.AnyNormalizers.{kind_by, reading_of}
use Rattle.icu_normalizer.specs.BoundaryBefore.{HasBoundaryBefore}
use Rattle.normalizer_streams.proofs.SettledLemmas.{IsSettled-character}
use Rattle.normalizer_streams.proofs.settled.is_settled.Goals as goal

pub returns-then-not-step-clause-settled : goal.returns-then-not-step-clause-settled
returns-then-not-step-clause-settled c = λ yes.
    let d = reading_of c.args.normalizer.now in
    let form = kind_by c.args.normalizer.now in
    IsSettled-character d form c.args.bytes.now c.args.place c.requires.positive c.requires.within
    (sym (ap (λ s. s.is_error) c.step_at-step.ensures) ∙ not-true _ c.if-not-step.true)
    (subst (λ s. HasBoundaryBefore d form s.character) c.step_at-step.ensures (c.has_boundary_before.ensures.apart yes))
