use Rattle.normalizer_text.proofs.rules.StrLemmas.{IsWellFormed-IsUtf8, IsUtf8-IsWellFormed}
use Rattle.normalizer_text.proofs.laws.utf8_is_well_formed_as_in_std.Goals as goal

pub returns : goal.returns
returns c = λ bytes. (IsUtf8-IsWellFormed bytes, IsWellFormed-IsUtf8 bytes)
