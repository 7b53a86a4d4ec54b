use Rattle.std.proofs.Common.{◌<◌, ◌/◌, ℕ, length, take}
use Rattle.normalizer_tables.specs.Pairs.{pair_at}
use Rattle.normalizer_tables.specs.inner.Seconds.{AreBitsOf}
use Rattle.normalizer_tables.proofs.pairs.seconds.Seconds.of_pairs.Given as goal

abbrev pub invariant-loop-place : goal.invariant-loop-place
invariant-loop-place l =
    ((k : ℕ) → k < length l.pairs → (pair_at l.pairs k).0 / 64 < length l.words.items) × AreBitsOf l.words.items (take l.place l.pairs)
