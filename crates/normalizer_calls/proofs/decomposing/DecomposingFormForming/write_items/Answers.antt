use Rattle.normal_forms.specs.Forms.{normal_form}
use Rattle.normalizer_calls.proofs.decomposing.DecomposingFormForming.write_items.Goals as goal

pub returns-clause-text : goal.returns-clause-text
unfolding normal_form
returns-clause-text g c = c.write_items.ensures.text _ (c.in_ok-items.ensures.form.text _ c.new.ensures.spells)
