use Rattle.normalizer_text.proofs.rules.StrLemmas.{IsCharBoundary-boundary, boundary-IsCharBoundary, decoded-chars, IsWellFormed-IsUtf8}
use Rattle.normalizer_text.proofs.laws.str_decodes_to_its_characters.Goals as goal

pub returns-clause-well_formed : goal.returns-clause-well_formed
returns-clause-well_formed c = IsWellFormed-IsUtf8 c.args.text.now c.utf8.text

pub returns-clause-characters : goal.returns-clause-characters
returns-clause-characters c = decoded-chars c.args.text.now c.utf8.text

pub returns-clause-ends : goal.returns-clause-ends
returns-clause-ends c = λ n. (IsCharBoundary-boundary c.args.text.now n c.utf8.text, boundary-IsCharBoundary c.args.text.now n c.utf8.text)
