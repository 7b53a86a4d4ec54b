use Rattle.std.proofs.Common.{ℕ, ◌<◌, ◌≤◌}
use Rattle.normalizer_tables.specs.conditions.StepConditions.{AvoidsFdfa}
use Rattle.normalizer_check.proofs.check.overall.avoid_fdfa_elsewhere.Given as goal

-- no surrogate so far has the form
abbrev pub invariant-loop-surrogate : goal.invariant-loop-surrogate
invariant-loop-surrogate l = (n : ℕ) → 0xD800 ≤ n → n < l.surrogate → AvoidsFdfa l.data n
