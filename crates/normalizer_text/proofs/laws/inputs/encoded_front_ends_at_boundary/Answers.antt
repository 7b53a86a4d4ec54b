use Rattle.std.proofs.Common.{refl}
use Rattle.normal_forms.proofs.forms.TextLemmas.{IsText-normal_form}
use Rattle.normalizer_text.proofs.inputs.EncodedFormLemmas.{boundary_of_encoded, encoded_of_boundary, encoded_iff_front, encoded-fewer, longest_encoded_is_cut}
use Rattle.normalizer_text.proofs.inputs.InputCutLemmas.{qualifies_iff_front}
use Rattle.normalizer_text.proofs.laws.inputs.encoded_front_ends_at_boundary.Goals as goal

pub returns : goal.returns
returns c = record {
  exactly = λ e d form lists scalars units n k.
      (boundary_of_encoded e d form units (IsText-normal_form d form lists scalars) n k, λ b. encoded_of_boundary e d form units n k b.0 b.1 b.2);
  stands = encoded_iff_front;
  fewer = encoded-fewer;
  longest = λ e d form suits lists scalars units. longest_encoded_is_cut e d form units suits (IsText-normal_form d form lists scalars);
  at_cut = λ e d form suits units n cut.
      let here = (qualifies_iff_front e d form suits units n).0 cut.qualifies in
      encoded_of_boundary e d form units n _ here.0 refl here.1;
}
