use Rattle.normalizer_packing.proofs.constant_words.ConstantWords.{steps_alike}
use Rattle.normalizer_packing.proofs.step_words.supplement_of.Goals as goal

pub table_of-requires-clause-alike : goal.table_of-requires-clause-alike
table_of-requires-clause-alike c = steps_alike _ _ _ c.requires.1
