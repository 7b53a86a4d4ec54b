use Rattle.normalizer_text.proofs.inputs.InputOffenceLemmas.{input_offence_exists, input_offence_unique, input_found_differs}
use Rattle.normalizer_text.proofs.laws.inputs.first_input_offence.Goals as goal

pub returns : goal.returns
returns c = record {
  exists = input_offence_exists;
  unique = input_offence_unique;
  differ = input_found_differs;
}
