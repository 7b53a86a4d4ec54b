use Rattle.std.proofs.Common.{◌≡◌, ◌<◌, ℕ, get_or, length}
use Rattle.normalizer_tables.specs.inner.PassingWords.{byte_without}
use Rattle.normalizer_tables.proofs.blocks.bytes_of_block.Given as goal

abbrev pub invariant-loop-place : goal.invariant-loop-place
invariant-loop-place l =
    (length l.bytes ≡ 64) × ((k : ℕ) → k < l.place → get_or l.bytes k 0 ≡ byte_without l.bits (get_or l.block k 0))
