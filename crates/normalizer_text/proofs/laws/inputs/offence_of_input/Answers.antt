use Rattle.normalizer_text.proofs.inputs.InputOffenceLemmas.{offence_of_exists, offence_of_unique, none_iff_normalized, found_in_text, wanted_in_form}
use Rattle.normalizer_text.proofs.laws.inputs.offence_of_input.Goals as goal

pub returns : goal.returns
returns c = record {
  exists = offence_of_exists;
  unique = offence_of_unique;
  none = none_iff_normalized;
  found = found_in_text;
  wanted = wanted_in_form;
}
