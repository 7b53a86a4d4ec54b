use Rattle.normalizer_text.proofs.rules.StdLemmas.{encode-decoded-lossy}
use Rattle.normalizer_text.proofs.laws.utf8_decodes_as_in_std.Goals as goal

pub returns : goal.returns
returns c = encode-decoded-lossy
