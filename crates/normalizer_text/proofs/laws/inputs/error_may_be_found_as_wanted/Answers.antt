use Rattle.normalizer_text.proofs.inputs.InputExamples.{offence_at_error}
use Rattle.normalizer_text.proofs.laws.inputs.error_may_be_found_as_wanted.Goals as goal

pub returns : goal.returns
returns c = offence_at_error
