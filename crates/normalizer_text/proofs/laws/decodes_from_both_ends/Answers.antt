use Rattle.normalizer_text.proofs.steps.BackLemmas.{decoded-TakenFrom}
use Rattle.normalizer_text.proofs.laws.decodes_from_both_ends.Goals as goal

pub returns : goal.returns
returns c = λ e units x rest y t. decoded-TakenFrom e t
