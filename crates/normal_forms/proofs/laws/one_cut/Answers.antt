use Rattle.normal_forms.proofs.cuts.OffenceLemmas.{cut_iff_longest}
use Rattle.normal_forms.proofs.cuts.PlaceLemmas.{cut_of, cut_unique}
use Rattle.normal_forms.proofs.laws.one_cut.Goals as goal

pub returns-clause-exists : goal.returns-clause-exists
returns-clause-exists c = cut_of

pub returns-clause-unique : goal.returns-clause-unique
returns-clause-unique c = cut_unique

pub returns-clause-longest : goal.returns-clause-longest
returns-clause-longest c = λ d form suits x n cut. ((cut_iff_longest d form suits x n).0 cut).1
