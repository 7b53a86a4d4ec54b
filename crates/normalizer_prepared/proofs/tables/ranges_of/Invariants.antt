use Rattle.std.proofs.Common.{◌≡◌, ◌+◌, ◌≤◌, ◌++◌, drop, length}
use Rattle.normalizer_tables.specs.Table.{code_points}
use Rattle.normalizer_prepared.specs.Runs.{ranges_from, words_of}
use Rattle.normalizer_prepared.proofs.tables.ranges_of.Given as goal

abbrev pub invariant-loop-run : goal.invariant-loop-run
invariant-loop-run l =
    (l.ranges.items ++ ranges_from l.next (drop l.run-index l.runs) ≡ ranges_from 0 l.runs)
    × (l.next + length (words_of (drop l.run-index l.runs)) ≡ length (words_of l.runs))
    × (l.next ≤ code_points)
