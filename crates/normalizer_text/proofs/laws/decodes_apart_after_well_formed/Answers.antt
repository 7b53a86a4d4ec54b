use Rattle.normalizer_text.proofs.steps.StepLemmas.{steps-append, decoded-append}
use Rattle.normalizer_text.proofs.steps.StepBoundaries.{boundary-well_formed}
use Rattle.normalizer_text.proofs.laws.decodes_apart_after_well_formed.Goals as goal

pub returns-clause-text : goal.returns-clause-text
returns-clause-text c = λ e. decoded-append e

pub returns-clause-steps : goal.returns-clause-steps
returns-clause-steps c = λ e. steps-append e

pub returns-clause-ends : goal.returns-clause-ends
returns-clause-ends c = λ e. boundary-well_formed e
