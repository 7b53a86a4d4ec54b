use Rattle.std.proofs.Common.{◌≡◌, ◌≤◌, ◌<◌, ◌*◌, ◌+◌, ℕ, [], bit_and, get_or}
use Rattle.std.specs.Option.{IfSome}
use Rattle.normalizer_tables.specs.Table.{HaveBits}
use Rattle.normalizer_tables.proofs.code_points.NextInBlocks.{HasBits}
use Rattle.normalizer_tables.proofs.blocks.Blocks.next_other.Given as goal

abbrev pub invariant-loop-place : goal.invariant-loop-place
invariant-loop-place l = record {
  none : (above : ℕ) → HaveBits (record { words = l.self; past = above }) l.mask l.bits l.from (l.place * 64);
  passed : IfSome l.passed (λ k. HasBits l.mask l.bits (get_or l.self-inside.blocks.items k []));
}

abbrev pub invariant-loop-offset : goal.invariant-loop-offset
invariant-loop-offset l = (j : ℕ) → j < l.offset → l.from ≤ l.start + j → bit_and (get_or l.block j 0) l.mask ≡ l.bits
