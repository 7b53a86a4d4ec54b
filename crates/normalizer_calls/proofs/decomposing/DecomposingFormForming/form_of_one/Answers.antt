use Rattle.std.proofs.Common.{sym, ◌∙◌}
use Rattle.normalizer_calls.proofs.passthrough.PassthroughLemmas.{form_of_one}
use Rattle.normalizer_calls.proofs.decomposing.DecomposingFormForming.form_of_one.Goals as goal

pub returns : goal.returns
returns c = form_of_one _ _ c.args.self.now.serves c.args.character c.ranges.character.0 ∙ sym c.members.ensures
