use Rattle.std.proofs.Common.{◌∙◌, length, ap}
use Rattle.normalizer_text.specs.DecodingSteps.{read}
use Rattle.normalizer_text.proofs.sequences.SubpartLemmas.{first-begins}
use Rattle.normalizer_text.proofs.utf8.first_step.Goals as goal

pub returns-in-Some : goal.returns-in-Some
returns-in-Some c =
    c.read.ensures ∙ ap (λ v. read v (length c.in-Some.sequence.now)) c.character_of.ensures ∙ first-begins c.args.bytes.now c.in-Some.sequence.now c.in-Some.ensures
