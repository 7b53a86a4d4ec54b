use Rattle.normal_forms.proofs.boundaries.BoundaryLemmas.{nfd-boundary}
use Rattle.normal_forms.proofs.forms.LawLemmas.{nfc-boundary}
use Rattle.normal_forms.proofs.laws.safe_boundary.Goals as goal

pub returns-clause-decomposing : goal.returns-clause-decomposing
returns-clause-decomposing c = nfd-boundary

pub returns-clause-composing : goal.returns-clause-composing
returns-clause-composing c = nfc-boundary
