use Rattle.std.proofs.Common.{sym}
use Rattle.icu_normalizer.proofs.StrLemmas.{IsWellFormed-IsUtf8}
use Rattle.normalizer_streams.proofs.ErrorLemmas.{no_errors}
use Rattle.normalizer_streams.proofs.ill_formed.ill_formed_in.Goals as goal

pub returns-in-Ok : goal.returns-in-Ok
returns-in-Ok c = sym (no_errors _ (IsWellFormed-IsUtf8 c.args.bytes.now c.in-Ok.ensures.cases.1))
