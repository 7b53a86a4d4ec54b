use Rattle.normalizer_packing.proofs.words_of_lists.StoredSteps.{Holds-more}
use Rattle.normalizer_packing.proofs.step_words.store_of.Goals as goal

pub loop-step-preserved : goal.loop-step-preserved
loop-step-preserved c = Holds-more _ _ _ _ c.loop-step-test.true c.loop-step.invariant c.in_ok-put.ensures
