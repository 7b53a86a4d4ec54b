use Rattle.normalizer_text.proofs.steps.BackLemmas.{boundary-at}
use Rattle.normalizer_text.proofs.laws.step_begins_at_unit_that_cannot_trail.Goals as goal

pub returns : goal.returns
returns c = λ e. boundary-at e
