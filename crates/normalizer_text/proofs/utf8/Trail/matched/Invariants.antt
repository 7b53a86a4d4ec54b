use Rattle.std.proofs.Common.{◌-◌, ◌≤◌}
use Rattle.normalizer_text.specs.Utf8.{matched_count}
use Rattle.normalizer_text.specs.inner.Trails.{trail_ranges}
use Rattle.normalizer_text.proofs.utf8.Trail.matched.Given as goal

abbrev pub invariant-loop-n : goal.invariant-loop-n
invariant-loop-n l = l.n ≤ matched_count (trail_ranges l.self) l.bytes

abbrev pub decreases-loop-n : goal.decreases-loop-n
decreases-loop-n l = l.self.length - l.n
