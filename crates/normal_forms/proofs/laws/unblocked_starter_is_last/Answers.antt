use Rattle.normal_forms.proofs.composing.BlockedLemmas.{unblocked_are_marks}
use Rattle.normal_forms.proofs.laws.unblocked_starter_is_last.Goals as goal

pub returns : goal.returns
returns c = unblocked_are_marks
