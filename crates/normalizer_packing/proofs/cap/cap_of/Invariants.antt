use Rattle.std.proofs.Common.{ℕ, ◌<◌}
use Rattle.normalizer_packing.specs.inner.Beside.{MayPass}
use Rattle.normalizer_packing.proofs.cap.cap_of.Given as goal

-- all numbers so far may be passed
abbrev pub invariant-loop-number : goal.invariant-loop-number
invariant-loop-number l = (n : ℕ) → n < l.number → MayPass l.words.replaced.now l.words.kind l.words.entries.now l.words.compositions.now n
