use Rattle.normal_forms.proofs.cuts.OffenceLemmas.{front_at_cut}
use Rattle.normal_forms.proofs.cuts.PlaceLemmas.{rest_is_nothing}
use Rattle.normal_forms.proofs.laws.parts_at_cut.Goals as goal

pub returns-clause-prefix : goal.returns-clause-prefix
returns-clause-prefix c = λ d form suits x n cut. front_at_cut d form suits x n cut.qualifies

pub returns-clause-rest : goal.returns-clause-rest
returns-clause-rest c = rest_is_nothing
