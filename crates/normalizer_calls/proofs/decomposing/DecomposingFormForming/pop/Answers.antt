use Rattle.normalizer_calls.specs.inner.FormsLeft.{form_of_ordered}
use Rattle.normalizer_calls.proofs.decomposing.DecomposingFormForming.pop.Goals as goal

pub returns-clause-some : goal.returns-clause-some
unfolding form_of_ordered
returns-clause-some c = λ agrees. c.pop_front.ensures.some

pub returns-clause-none : goal.returns-clause-none
unfolding form_of_ordered
returns-clause-none c = c.pop_front.ensures.none

pub returns-clause-agrees : goal.returns-clause-agrees
returns-clause-agrees c = c.pop_front.ensures.agrees _
