use Rattle.normalizer_check.proofs.conditions.AcceptedLaws.{class_conditions-met}
use Rattle.normalizer_check.proofs.laws.accepted.accepted_data_have_sound_classes.Goals as goal

pub returns : goal.returns
returns c = class_conditions-met
