use Rattle.normalizer_text.proofs.inputs.InputCutLemmas.{is_normalized_iff_input_cut}
use Rattle.normalizer_text.proofs.laws.inputs.normalized_input_is_cut_at_its_end.Goals as goal

pub returns : goal.returns
returns c = is_normalized_iff_input_cut
