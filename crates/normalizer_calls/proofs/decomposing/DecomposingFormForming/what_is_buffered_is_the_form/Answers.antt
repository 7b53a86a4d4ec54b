use Rattle.normal_forms.specs.Forms.{normal_form}
use Rattle.normalizer_calls.specs.inner.FormsLeft.{form_of_ordered}
use Rattle.normalizer_calls.proofs.decomposing.DecomposingFormForming.what_is_buffered_is_the_form.Goals as goal

pub returns-clause-form : goal.returns-clause-form
unfolding form_of_ordered normal_form
returns-clause-form c = λ e units end b ordered. record { agrees = ordered.agrees; form = ordered.form }
