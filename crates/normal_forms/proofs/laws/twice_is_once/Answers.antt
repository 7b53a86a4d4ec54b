use Rattle.normal_forms.proofs.forms.LawLemmas.{normal_form-normal_form}
use Rattle.normal_forms.proofs.laws.twice_is_once.Goals as goal

pub returns : goal.returns
returns c = normal_form-normal_form
