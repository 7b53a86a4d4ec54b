use Rattle.normal_forms.proofs.forms.TextLemmas.{IsText-normal_form}
use Rattle.normalizer_text.proofs.inputs.EncodedFormLemmas.{offered_is_normalized, form_ends_with_units}
use Rattle.normalizer_text.proofs.laws.inputs.offered_input.Goals as goal

pub returns : goal.returns
returns c = record {
  front = λ e d form suits are_nonempty lists scalars. offered_is_normalized e d form suits are_nonempty (IsText-normal_form d form lists scalars);
  whole = λ e d form suits are_nonempty lists scalars. form_ends_with_units e d form suits are_nonempty (IsText-normal_form d form lists scalars);
}
