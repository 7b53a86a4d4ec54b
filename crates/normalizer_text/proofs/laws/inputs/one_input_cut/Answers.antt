use Rattle.normalizer_text.proofs.inputs.InputCutLemmas.{input_cut_exists, input_cut_unique, qualifies_iff_front, cut_ends}
use Rattle.normalizer_text.proofs.laws.inputs.one_input_cut.Goals as goal

pub returns : goal.returns
returns c = record {
  exists = input_cut_exists;
  unique = input_cut_unique;
  longest = λ e d form suits units n cut m b front. cut.greatest m ((qualifies_iff_front e d form suits units m).1 (b, front));
  characters = cut_ends;
}
