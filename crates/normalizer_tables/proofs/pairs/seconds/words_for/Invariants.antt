use Rattle.std.proofs.Common.{◌<◌, ◌/◌, ℕ}
use Rattle.normalizer_tables.specs.Pairs.{pair_at}
use Rattle.normalizer_tables.proofs.pairs.seconds.words_for.Given as goal

abbrev pub invariant-loop-place : goal.invariant-loop-place
invariant-loop-place l = (k : ℕ) → k < l.place → (pair_at l.pairs k).0 / 64 < l.count
