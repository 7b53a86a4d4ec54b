use Rattle.std.proofs.Common.{arith}
use Rattle.normalizer_tables.specs.Table.{code_points}
use Rattle.normalizer_tables.proofs.code_points.WordsInRanges.{IsRun-none, IsRun-gap, IsRun-held}
use Rattle.normalizer_tables.proofs.blocks.run_from.Goals as goal

pub returns-in-empty-clause-run : goal.returns-in-empty-clause-run
returns-in-empty-clause-run c = IsRun-none _ _ _ c.in-empty.len_below (omega arith) c.requires.ranges

pub returns-in-len1-up-clause-run : goal.returns-in-len1-up-clause-run
returns-in-len1-up-clause-run c = IsRun-gap _ _ c.in-len1-up.len_at_least c.if-number-first.true c.requires.ranges

pub returns-in-len1-up-2-clause-run : goal.returns-in-len1-up-2-clause-run
returns-in-len1-up-2-clause-run c = IsRun-held _ _ c.in-len1-up.len_at_least (omega arith) c.requires.ranges

pub returns-in-len1-up-clause-within : goal.returns-in-len1-up-clause-within
unfolding code_points
returns-in-len1-up-clause-within c =
    let range = c.requires.ranges.list.ranges 0 (0, 0, 0) c.in-len1-up.len_at_least in omega (arith, range.0, range.1)

pub returns-in-len1-up-2-clause-within : goal.returns-in-len1-up-2-clause-within
unfolding code_points
returns-in-len1-up-2-clause-within c = omega (arith, (c.requires.ranges.list.ranges 0 (0, 0, 0) c.in-len1-up.len_at_least).1)
