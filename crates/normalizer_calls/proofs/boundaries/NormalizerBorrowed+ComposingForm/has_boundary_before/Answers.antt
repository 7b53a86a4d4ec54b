use Rattle.std.proofs.Common.{◌∙◌, sym}
use Rattle.normalizer_calls.proofs.boundaries.NormalizerBorrowed+ComposingForm.has_boundary_before.Goals as goal

pub returns-clause-apart : goal.returns-clause-apart
returns-clause-apart c = λ yes. c.args.self.now.form.serves.beginnings _ c.ranges.character.0 (sym c.begins_by.ensures ∙ yes)
