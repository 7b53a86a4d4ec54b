use Rattle.normalizer_text.proofs.inputs.InputCutLemmas.{qualifies_iff_front, qualifies_iff_characters, zero_input_qualifies, smaller_input_qualifies}
use Rattle.normalizer_text.proofs.laws.inputs.input_cut_is_common_front.Goals as goal

pub returns : goal.returns
returns c = record {
  exactly = qualifies_iff_front;
  characters = qualifies_iff_characters;
  none = zero_input_qualifies;
  fewer = λ e d form suits units n m q b le. smaller_input_qualifies e d form suits units m n le b q;
}
