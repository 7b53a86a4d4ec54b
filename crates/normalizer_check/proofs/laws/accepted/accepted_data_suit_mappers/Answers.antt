use Rattle.normalizer_check.proofs.conditions.AcceptedLaws.{SuitsMapper-accepted}
use Rattle.normalizer_check.proofs.laws.accepted.accepted_data_suit_mappers.Goals as goal

pub returns : goal.returns
returns c = SuitsMapper-accepted
