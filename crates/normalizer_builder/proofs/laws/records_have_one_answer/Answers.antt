use Rattle.normalizer_builder.proofs.OneAnswer.{built_or_memory, one_smallest}
use Rattle.normalizer_builder.proofs.laws.records_have_one_answer.Goals as goal

pub returns-clause-refusal : goal.returns-clause-refusal
returns-clause-refusal c = one_smallest

pub returns-clause-built : goal.returns-clause-built
returns-clause-built c = built_or_memory
