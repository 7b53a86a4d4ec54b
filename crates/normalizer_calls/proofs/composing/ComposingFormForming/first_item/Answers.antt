use Rattle.normal_forms.specs.Forms.{normal_form}
use Rattle.normalizer_calls.proofs.composing.ComposingFormForming.first_item.Goals as goal

pub returns-clause-first : goal.returns-clause-first
unfolding normal_form
returns-clause-first g c = (c.first_item.ensures.first _ (c.in_ok-items.ensures.form.text _ c.new.ensures.spells)).0
