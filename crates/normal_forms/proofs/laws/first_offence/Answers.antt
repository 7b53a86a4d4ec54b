use Rattle.normal_forms.proofs.cuts.OffenceLemmas.{found_differs}
use Rattle.normal_forms.proofs.cuts.PlaceLemmas.{offence_of, offence_unique}
use Rattle.normal_forms.proofs.laws.first_offence.Goals as goal

pub returns-clause-exists : goal.returns-clause-exists
returns-clause-exists c = offence_of

pub returns-clause-unique : goal.returns-clause-unique
returns-clause-unique c = offence_unique

pub returns-clause-differ : goal.returns-clause-differ
returns-clause-differ c = found_differs
