use Rattle.std.proofs.Common.{ap, ◌∙◌}
use Rattle.std.specs.Prelude.{chars}
use Rattle.icu_normalizer.specs.NormalForms.{normal_form}
use Rattle.normalizer_examples.proofs.growing.form_of.Goals as goal

pub returns-in-Ok-clause-form : goal.returns-in-Ok-clause-form
unfolding normal_form
returns-in-Ok-clause-form c = ap chars (c.in-Ok.ensures.ok ∙ c.deref.ensures.value) ∙ c.in_ok-form.ensures.form.form
