use Rattle.normal_forms.proofs.composing.VisitLemmas.{compose_is_by_starters}
use Rattle.normal_forms.proofs.laws.composition_by_starters.Goals as goal

pub returns : goal.returns
returns c = compose_is_by_starters
