use Rattle.normalizer_text.proofs.inputs.InputCutLemmas.{cut_of_well_formed}
use Rattle.normalizer_text.proofs.inputs.InputOffenceLemmas.{offence_of_well_formed}
use Rattle.normalizer_text.proofs.inputs.InputEncodingLemmas.{is_normalized_iff_text, input_cut_iff_text, input_offence_iff_text}
use Rattle.normalizer_text.proofs.laws.inputs.well_formed_input_goes_by_its_text.Goals as goal

pub returns : goal.returns
returns c = record {
  normalized = is_normalized_iff_text;
  cut = λ e d form units n k w. input_cut_iff_text e d form units w n k;
  offence = λ e d form units n found wanted w. input_offence_iff_text e d form units w n found wanted;
  cut_characters = cut_of_well_formed;
  offence_characters = λ e d form units n found wanted w. offence_of_well_formed e d form units n found wanted w;
}
