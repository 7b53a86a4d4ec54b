use Rattle.std.proofs.Common.{◌≤◌, length}
use Rattle.normalizer_streams.proofs.lines.end_of_piece.Given as goal

abbrev pub invariant-loop-end : goal.invariant-loop-end
invariant-loop-end l = l.end ≤ length l.bytes

abbrev pub decreases-loop-end : goal.decreases-loop-end
decreases-loop-end l = l.end
