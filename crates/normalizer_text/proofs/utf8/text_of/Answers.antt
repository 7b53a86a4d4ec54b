use Rattle.normalizer_text.proofs.rules.StrLemmas.{IsUtf8-IsWellFormed}
use Rattle.normalizer_text.proofs.utf8.text_of.Goals as goal

pub from_utf8_unchecked-requires : goal.from_utf8_unchecked-requires
from_utf8_unchecked-requires c = IsUtf8-IsWellFormed c.args.bytes.now c.requires
