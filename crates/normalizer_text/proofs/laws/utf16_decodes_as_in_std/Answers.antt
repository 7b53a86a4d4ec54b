use Rattle.normalizer_text.proofs.rules.StdLemmas.{decoded-lossy16}
use Rattle.normalizer_text.proofs.laws.utf16_decodes_as_in_std.Goals as goal

pub returns : goal.returns
returns c = decoded-lossy16
