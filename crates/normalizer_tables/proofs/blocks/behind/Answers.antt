use Rattle.std.proofs.Common.{arith}
use Rattle.normalizer_tables.proofs.code_points.WordsInRanges.{AreLeft-tail, AreLeft-all}
use Rattle.normalizer_tables.proofs.blocks.behind.Goals as goal

pub returns-in-len1-up : goal.returns-in-len1-up
returns-in-len1-up c = AreLeft-tail _ _ c.in-len1-up.len_at_least (omega arith) c.requires

pub returns-in_default-2 : goal.returns-in_default-2
returns-in_default-2 c = AreLeft-all _ _ (λ _. c.if-range-number.false) c.requires
