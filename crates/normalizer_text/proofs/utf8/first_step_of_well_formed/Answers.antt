use Rattle.std.proofs.Common.{◌∙◌, length, ap}
use Rattle.normalizer_text.specs.DecodingSteps.{read}
use Rattle.normalizer_text.proofs.sequences.SubpartLemmas.{first-begins}
use Rattle.normalizer_text.proofs.utf8.first_step_of_well_formed.Goals as goal

pub returns : goal.returns
returns c =
    c.read.ensures ∙ ap (λ v. read v (length c.sequence_of_well_formed-sequence.result.now)) c.character_of.ensures ∙ first-begins c.args.bytes.now c.sequence_of_well_formed-sequence.result.now c.sequence_of_well_formed-sequence.ensures
