use Rattle.normal_forms.proofs.cuts.OffenceLemmas.{continued_cut, continued_differs, continued_offence}
use Rattle.normal_forms.proofs.laws.offence_under_continuation.Goals as goal

pub returns-clause-cut : goal.returns-clause-cut
returns-clause-cut c = continued_cut

pub returns-clause-differs : goal.returns-clause-differs
returns-clause-differs c = continued_differs

pub returns-clause-offence : goal.returns-clause-offence
returns-clause-offence c = continued_offence
