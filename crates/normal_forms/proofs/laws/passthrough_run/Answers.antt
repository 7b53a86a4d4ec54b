use Rattle.normal_forms.proofs.forms.LawLemmas.{nfd_run-passes, nfc_run-passes}
use Rattle.normal_forms.proofs.laws.passthrough_run.Goals as goal

pub returns-clause-decomposing : goal.returns-clause-decomposing
returns-clause-decomposing c = nfd_run-passes

pub returns-clause-composing : goal.returns-clause-composing
returns-clause-composing c = nfc_run-passes
