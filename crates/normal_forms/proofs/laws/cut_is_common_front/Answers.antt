use Rattle.normal_forms.proofs.cuts.OffenceLemmas.{cut_iff, zero_qualifies, smaller_qualifies}
use Rattle.normal_forms.proofs.laws.cut_is_common_front.Goals as goal

pub returns-clause-exactly : goal.returns-clause-exactly
returns-clause-exactly c = cut_iff

pub returns-clause-none : goal.returns-clause-none
returns-clause-none c = zero_qualifies

pub returns-clause-fewer : goal.returns-clause-fewer
returns-clause-fewer c = λ d form suits x n m q fewer. smaller_qualifies d form suits x m n fewer q
