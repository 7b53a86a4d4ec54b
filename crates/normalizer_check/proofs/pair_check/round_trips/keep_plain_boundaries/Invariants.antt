use Rattle.std.proofs.Common.{ℕ, ◌<◌, ◌≤◌}
use Rattle.std.specs.List.{AllWithin}
use Rattle.normalizer_check.specs.inner.Walk.{KeepsPlainBoundary}
use Rattle.normalizer_check.proofs.pair_check.round_trips.keep_plain_boundaries.Given as goal

abbrev pub invariant-loop-place : goal.invariant-loop-place
invariant-loop-place l = AllWithin (λ p. KeepsPlainBoundary l.data l.bounds l.compositions p.0) l.compositions 0 l.place

abbrev pub invariant-loop-jamo : goal.invariant-loop-jamo
invariant-loop-jamo l = (n : ℕ) → 0x1161 ≤ n → n < l.jamo → KeepsPlainBoundary l.data l.bounds l.compositions n
