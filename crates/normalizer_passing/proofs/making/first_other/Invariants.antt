use Rattle.std.proofs.Common.{◌≡◌, ◌<◌, ℕ}
use Rattle.normalizer_passing.specs.PassBytes.{byte_in}
use Rattle.normalizer_passing.proofs.making.first_other.Given as goal

abbrev pub invariant-loop-number : goal.invariant-loop-number
invariant-loop-number l = (n : ℕ) → n < l.number → byte_in l.blocks l.numbers n ≡ 255
