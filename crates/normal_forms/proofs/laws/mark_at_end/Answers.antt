use Rattle.normal_forms.proofs.composing.InsertedCharacter.{normal_form-mark}
use Rattle.normal_forms.proofs.laws.mark_at_end.Goals as goal

pub returns : goal.returns
returns c = normal_form-mark
