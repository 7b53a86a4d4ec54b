use Rattle.normalizer_text.proofs.inputs.InputCutLemmas.{front_at_input_cut, rest_at_input_cut}
use Rattle.normalizer_text.proofs.laws.inputs.parts_at_input_cut.Goals as goal

pub returns : goal.returns
returns c = record {
  prefix = λ e d form suits units n cut. front_at_input_cut e d form suits units n cut.qualifies;
  rest = rest_at_input_cut;
}
