use Rattle.normal_forms.proofs.forms.LawLemmas.{compose_over_marks, last_decides}
use Rattle.normal_forms.proofs.laws.composition_over_marks.Goals as goal

pub returns-clause-pass : goal.returns-clause-pass
returns-clause-pass c = compose_over_marks

pub returns-clause-last_decides : goal.returns-clause-last_decides
returns-clause-last_decides c = last_decides
