use Rattle.std.proofs.Common.{refl}
use Rattle.std.proofs.lemmas.Str.Ascii.{trim_ascii_is}
use Rattle.normalizer_ucd.proofs.lines.trim.Goals as goal

pub returns : goal.returns
returns c = trim_ascii_is _ _ _ refl c.trim_ascii.ensures.value
