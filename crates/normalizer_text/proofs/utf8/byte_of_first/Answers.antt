use Rattle.normalizer_text.proofs.sequences.SubpartLemmas.{PassesBy-begins}
use Rattle.normalizer_text.proofs.utf8.byte_of_first.Goals as goal

pub returns-in-Some : goal.returns-in-Some
returns-in-Some c = PassesBy-begins c.args.bytes.now c.args.text.now c.in-Some.sequence.now c.byte_of_sequence.result c.in-Some.ensures c.byte_of_sequence.ensures
