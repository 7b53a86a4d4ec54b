use Rattle.std.proofs.Common.{◌≡◌, ◌*◌, ◌-◌, ◌≤◌}
use Rattle.normalizer_tables.specs.inner.Blocks.{blocks_to, numbers_to, AreLeft}
use Rattle.normalizer_tables.specs.Ranges.{words_of}
use Rattle.normalizer_tables.proofs.blocks.Blocks.from_ranges.Given as goal

abbrev pub invariant-loop-place : goal.invariant-loop-place
invariant-loop-place l = record {
  within : l.place ≤ 17408;
  left : AreLeft l.ranges (l.place * 64) l.left;
  in_blocks : l.blocks.items ≡ blocks_to (words_of l.ranges) l.place;
  in_order : l.numbers.items ≡ numbers_to (words_of l.ranges) l.place;
}

abbrev pub decreases-loop-place : goal.decreases-loop-place
decreases-loop-place l = 17408 - l.place
