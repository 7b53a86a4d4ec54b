use Rattle.normal_forms.proofs.cuts.OffenceLemmas.{parts_of_form}
use Rattle.normal_forms.proofs.laws.parts_of_normal_form.Goals as goal

pub returns-clause-front : goal.returns-clause-front
returns-clause-front c = λ d form suits x front rest e. (parts_of_form d form suits x front rest e).0

pub returns-clause-suffix : goal.returns-clause-suffix
returns-clause-suffix c = λ d form suits x front rest e. (parts_of_form d form suits x front rest e).1
