use Rattle.std.proofs.lemmas.Str.Ascii.{trim_ascii_end_is}
use Rattle.normalizer_ucd.proofs.wholes.trim_end.Goals as goal

pub returns : goal.returns
returns c = trim_ascii_end_is _ _ c.trim_ascii_end.ensures.value
