use Rattle.std.proofs.Common.{◌≡◌, ◌<◌, ℕ, get_or}
use Rattle.normalizer_passing.specs.PassBytes.{byte_in}
use Rattle.normalizer_passing.specs.inner.Kept.{IsLessBy}
use Rattle.normalizer_passing.proofs.making.stop_all.Given as goal

abbrev pub invariant-loop-k : goal.invariant-loop-k
invariant-loop-k l = IsLessBy (byte_in l.initial.blocks l.numbers) l.blocks l.numbers
    × ((j : ℕ) → j < l.k → byte_in l.blocks l.numbers (get_or l.stops j 0) ≡ 0)
