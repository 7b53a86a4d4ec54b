use Rattle.normalizer_text.proofs.steps.StepLemmas.{Decodes-iff, decoded-IsText}
use Rattle.normalizer_text.proofs.steps.StepBoundaries.{width_of-steps}
use Rattle.normalizer_text.proofs.laws.decodes_to_one_text.Goals as goal

pub returns-clause-one : goal.returns-clause-one
returns-clause-one c = λ e. Decodes-iff e

pub returns-clause-text : goal.returns-clause-text
returns-clause-text c = λ e. decoded-IsText e

pub returns-clause-all : goal.returns-clause-all
returns-clause-all c = λ e. width_of-steps e
