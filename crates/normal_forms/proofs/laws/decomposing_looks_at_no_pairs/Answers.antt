use Rattle.normal_forms.proofs.forms.AlikeReadings.{nfd-alike}
use Rattle.normal_forms.proofs.laws.decomposing_looks_at_no_pairs.Goals as goal

pub returns : goal.returns
returns c = nfd-alike
