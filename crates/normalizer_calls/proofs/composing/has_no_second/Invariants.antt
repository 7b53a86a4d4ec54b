use Rattle.std.proofs.Common.{◌≡◌, ℕ, suc, ◌<◌, ◌-◌, Some, length, slice_get}
use Rattle.std.specs.Prelude.{false}
use Rattle.normalizer_tables.specs.Pairs.{may_be_second}
use Rattle.normalizer_calls.proofs.composing.has_no_second.Given as goal

abbrev pub invariant-loop-place : goal.invariant-loop-place
invariant-loop-place l = (0 < l.place) × ((i c : ℕ) → suc i < l.place → slice_get l.members (suc i) ≡ Some c → may_be_second l.pairs c ≡ false)

abbrev pub decreases-loop-place : goal.decreases-loop-place
decreases-loop-place l = length l.members - l.place
