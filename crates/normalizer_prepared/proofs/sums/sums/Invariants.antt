use Rattle.std.proofs.Common.{◌≡◌, drop}
use Rattle.std.specs.List.{fold}
use Rattle.normalizer_prepared.specs.Files.{add_byte, sums}
use Rattle.normalizer_prepared.proofs.sums.sums.Given as goal

abbrev pub invariant-loop-byte : goal.invariant-loop-byte
invariant-loop-byte l = fold add_byte (l.sum, l.sum_of_sums) (drop l.byte-index l.bytes) ≡ sums l.bytes
