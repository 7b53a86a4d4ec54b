use Rattle.normalizer_text.proofs.sequences.SubpartLemmas.{PassesBy-begins}
use Rattle.normalizer_text.proofs.utf8.byte_of_well_formed.Goals as goal

pub returns : goal.returns
returns c = PassesBy-begins c.args.bytes.now c.args.text.now c.sequence_of_well_formed-sequence.result.now c.byte_of_sequence.result c.sequence_of_well_formed-sequence.ensures c.byte_of_sequence.ensures
