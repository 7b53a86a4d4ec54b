use Rattle.std.proofs.Common.{◌≡◌, ◌+◌, ◌-◌, ◌<◌, ◌≤◌, ℕ, get_or, length}
use Rattle.normalizer_tables.specs.inner.Blocks.{AreLeft}
use Rattle.normalizer_tables.specs.Ranges.{word_in}
use Rattle.normalizer_tables.proofs.blocks.block_from.Given as goal

abbrev pub invariant-loop-offset : goal.invariant-loop-offset
invariant-loop-offset l = record {
  within : l.offset ≤ 64;
  left : AreLeft l.ranges (l.start + l.offset) l.left;
  long : length l.block ≡ 64;
  words : (k : ℕ) → k < l.offset → get_or l.block k 0 ≡ word_in l.ranges (l.start + k);
}

abbrev pub decreases-loop-offset : goal.decreases-loop-offset
decreases-loop-offset l = 64 - l.offset
