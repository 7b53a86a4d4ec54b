use Rattle.normalizer_text.proofs.inputs.InputOffenceLemmas.{continued_input_cut, continued_input_differs, continued_input_offence}
use Rattle.normalizer_text.proofs.laws.inputs.input_offence_under_continuation.Goals as goal

pub returns : goal.returns
returns c = record {
  cut = continued_input_cut;
  differs = continued_input_differs;
  offence = continued_input_offence;
}
