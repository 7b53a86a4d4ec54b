use Rattle.normalizer_text.proofs.steps.StepLemmas.{steps-apart}
use Rattle.normalizer_text.proofs.steps.StepBoundaries.{decoded-take-drop, decoded-between}
use Rattle.normalizer_text.proofs.laws.decodes_apart_after_steps.Goals as goal

pub returns-clause-steps : goal.returns-clause-steps
returns-clause-steps c = λ e units before after. steps-apart e before after units

pub returns-clause-text : goal.returns-clause-text
returns-clause-text c = λ e. decoded-take-drop e

pub returns-clause-between : goal.returns-clause-between
returns-clause-between c = λ e. decoded-between e
