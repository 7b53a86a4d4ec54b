use Rattle.normalizer_text.proofs.sequences.SubpartLemmas.{IsStepOfUtf8-first, IsStepOfUtf8-only}
use Rattle.normalizer_text.proofs.laws.utf8_steps_are_the_standards.Goals as goal

pub returns-clause-is : goal.returns-clause-is
returns-clause-is c = IsStepOfUtf8-first

pub returns-clause-only : goal.returns-clause-only
returns-clause-only c = IsStepOfUtf8-only
