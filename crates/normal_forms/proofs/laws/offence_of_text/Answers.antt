use Rattle.normal_forms.proofs.cuts.PlaceLemmas.{answer_of, answer_unique, none_iff_normalized}
use Rattle.normal_forms.proofs.laws.offence_of_text.Goals as goal

pub returns-clause-exists : goal.returns-clause-exists
returns-clause-exists c = answer_of

pub returns-clause-unique : goal.returns-clause-unique
returns-clause-unique c = answer_unique

pub returns-clause-none : goal.returns-clause-none
returns-clause-none c = none_iff_normalized
