use Rattle.normal_forms.proofs.forms.AlikeReadings.{HasNonemptyLists-alike, HasScalarResults-alike, HasTextLists-alike, SuitsForm-alike, normal_form-alike}
use Rattle.normal_forms.proofs.laws.alike_readings_make_the_same_forms.Goals as goal

pub returns-clause-same : goal.returns-clause-same
returns-clause-same c = normal_form-alike

pub returns-clause-suits : goal.returns-clause-suits
returns-clause-suits c = SuitsForm-alike

pub returns-clause-are_nonempty : goal.returns-clause-are_nonempty
returns-clause-are_nonempty c = HasNonemptyLists-alike

pub returns-clause-texts : goal.returns-clause-texts
returns-clause-texts c = HasTextLists-alike

pub returns-clause-scalars : goal.returns-clause-scalars
returns-clause-scalars c = HasScalarResults-alike
