use Rattle.std.proofs.Common.{ℕ, ◌-◌, ◌≤◌, length}
use Rattle.normalizer_streams.specs.Streams.{may_continue, IsDivision}
use Rattle.normalizer_streams.proofs.settled.last_settled.Given as goal

abbrev pub invariant-loop-place : goal.invariant-loop-place
invariant-loop-place l = record {
  within : l.place ≤ length l.bytes;
  none : (place : ℕ) → l.place ≤ place → IsDivision (may_continue l.normalizer) l.bytes place → ⊥;
}

abbrev pub decreases-loop-place : goal.decreases-loop-place
decreases-loop-place l = l.place - l.from
