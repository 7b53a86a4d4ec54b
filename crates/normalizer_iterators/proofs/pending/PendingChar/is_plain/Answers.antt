use Rattle.normalizer_tables.specs.Words.{is_plain}
use Rattle.normalizer_iterators.proofs.pending.PendingChar.is_plain.Goals as goal

pub returns : goal.returns
unfolding is_plain
returns c = λ s own plain. own.plain plain
