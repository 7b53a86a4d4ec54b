use Rattle.normalizer_text.proofs.steps.StepLemmas.{steps-nil, steps-some}
use Rattle.normalizer_text.proofs.laws.steps_follow_one_another.Goals as goal

pub returns-clause-none : goal.returns-clause-none
returns-clause-none c = λ e. steps-nil e

pub returns-clause-some : goal.returns-clause-some
returns-clause-some c = λ e. steps-some e
