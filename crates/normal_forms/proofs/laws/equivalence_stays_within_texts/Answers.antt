use Rattle.normal_forms.proofs.forms.EquivalenceLemmas.{equivalent_through_texts}
use Rattle.normal_forms.proofs.laws.equivalence_stays_within_texts.Goals as goal

pub returns : goal.returns
returns c = equivalent_through_texts
