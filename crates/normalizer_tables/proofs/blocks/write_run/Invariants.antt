use Rattle.std.proofs.Common.{◌≡◌, ◌<◌, ◌≤◌, ℕ, get_or, length}
use Rattle.normalizer_tables.proofs.blocks.write_run.Given as goal

abbrev pub invariant-loop-offset : goal.invariant-loop-offset
invariant-loop-offset l = record {
  long : length l.block ≡ 64;
  before : (k : ℕ) → k < l.from → get_or l.block k 0 ≡ get_or l.fn.block k 0;
  run : (k : ℕ) → l.from ≤ k → k < l.offset → get_or l.block k 0 ≡ l.word;
}
