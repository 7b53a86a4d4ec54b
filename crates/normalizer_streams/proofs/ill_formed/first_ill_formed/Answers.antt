use Rattle.icu_normalizer.proofs.StrLemmas.{IsWellFormed-IsUtf8}
use Rattle.normalizer_streams.proofs.ill_formed.first_ill_formed.Goals as goal

pub returns-in-Ok-clause-none : goal.returns-in-Ok-clause-none
returns-in-Ok-clause-none c = IsWellFormed-IsUtf8 c.args.bytes.now c.in-Ok.ensures.cases.1
