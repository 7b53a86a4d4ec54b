use Rattle.normal_forms.proofs.forms.TextLemmas.{IsText-normal_form}
use Rattle.normalizer_text.proofs.inputs.EncodedFormLemmas.{is_normalized_iff_encoded_form}
use Rattle.normalizer_text.proofs.laws.inputs.normalized_input_is_its_encoded_form.Goals as goal

pub returns : goal.returns
returns c = λ e d form lists scalars units. is_normalized_iff_encoded_form e d form units (IsText-normal_form d form lists scalars)
