use Rattle.std.proofs.Common.{◌≤◌}
use Rattle.normalizer_tables.specs.Table.{code_points}
use Rattle.normalizer_packing.specs.inner.Breakpoints.{CoverUpTo}
use Rattle.normalizer_packing.proofs.constant_words.ConsecutiveRanges.{HasPassed}
use Rattle.normalizer_packing.proofs.table_words.ranges_of.Given as goal

-- the numbers before `from` have their words, and no listed one after it was passed
abbrev pub invariant-loop-character : goal.invariant-loop-character
invariant-loop-character g l =
    CoverUpTo (g.W.Words.is_word l.words) l.ranges.items l.from × HasPassed l.breakpoints l.character-index l.from × (l.from ≤ code_points)
