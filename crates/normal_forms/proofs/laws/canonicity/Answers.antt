use Rattle.normal_forms.proofs.forms.EquivalenceLemmas.{equivalent_lists, equivalent_texts}
use Rattle.normal_forms.proofs.laws.canonicity.Goals as goal

pub returns-clause-lists : goal.returns-clause-lists
returns-clause-lists c = equivalent_lists

pub returns-clause-texts : goal.returns-clause-texts
returns-clause-texts c = equivalent_texts
