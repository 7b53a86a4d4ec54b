use Rattle.std.proofs.Common.{◌∙◌, ap, sym}
use Rattle.std.specs.Prelude.{not}
use Rattle.normalizer_calls.proofs.passthrough.PassthroughLemmas.{HasBoundaryBefore-boundary}
use Rattle.normalizer_calls.proofs.boundaries.NormalizerBorrowed+DecomposingForm.has_boundary_before.Goals as goal

pub returns-clause-apart : goal.returns-clause-apart
returns-clause-apart c = λ yes. HasBoundaryBefore-boundary _ _ c.args.self.now.form.serves _ c.ranges.character.0 (ap not (sym c.has_class_form.ensures) ∙ yes)
