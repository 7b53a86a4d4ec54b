use Rattle.normalizer_check.proofs.conditions.AcceptedLaws.{SuitsTexts-accepted, SuitsTexts-accepted_pairs, SuitsTexts-handed_in}
use Rattle.normalizer_check.proofs.laws.accepted.accepted_data_suit_texts.Goals as goal

pub returns : goal.returns
returns c = record { decomposing = SuitsTexts-accepted; composing = λ s b pairs plain accepted. SuitsTexts-accepted_pairs s b pairs accepted plain; handed_in = SuitsTexts-handed_in }
