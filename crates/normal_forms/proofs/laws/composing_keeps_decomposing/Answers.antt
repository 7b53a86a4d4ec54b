use Rattle.normal_forms.proofs.forms.LawLemmas.{nfd-nfc, nfc-nfd, nfc_equal_iff}
use Rattle.normal_forms.proofs.laws.composing_keeps_decomposing.Goals as goal

pub returns-clause-decomposed : goal.returns-clause-decomposed
returns-clause-decomposed c = nfd-nfc

pub returns-clause-composed : goal.returns-clause-composed
returns-clause-composed c = nfc-nfd

pub returns-clause-equal_together : goal.returns-clause-equal_together
returns-clause-equal_together c = nfc_equal_iff
