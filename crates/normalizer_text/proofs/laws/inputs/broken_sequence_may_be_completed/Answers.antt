use Rattle.normalizer_text.proofs.inputs.InputExamples.{broken_is_ill_formed, completed_is_normalized}
use Rattle.normalizer_text.proofs.laws.inputs.broken_sequence_may_be_completed.Goals as goal

pub returns : goal.returns
returns c = record {
  broken = λ d form own. broken_is_ill_formed own.well_formed;
  completed = completed_is_normalized;
}
