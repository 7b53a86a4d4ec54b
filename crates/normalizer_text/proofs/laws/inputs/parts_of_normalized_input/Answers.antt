use Rattle.normalizer_text.proofs.inputs.InputOffenceLemmas.{parts_of_normalized}
use Rattle.normalizer_text.proofs.laws.inputs.parts_of_normalized_input.Goals as goal

pub returns : goal.returns
returns c = record {
  front = λ e d form suits front rest w own. (parts_of_normalized e d form suits front rest w own).0;
  rest = λ e d form suits front rest w own. (parts_of_normalized e d form suits front rest w own).1;
}
