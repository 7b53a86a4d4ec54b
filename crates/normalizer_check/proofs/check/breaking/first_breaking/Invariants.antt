use Rattle.std.proofs.Common.{ℕ, ◌<◌}
use Rattle.std.specs.Char.{IsScalar}
use Rattle.normalizer_tables.specs.conditions.Conditions.{says}
use Rattle.normalizer_check.proofs.check.breaking.first_breaking.Given as goal

-- no character so far breaks the condition
abbrev pub invariant-loop-number : goal.invariant-loop-number
invariant-loop-number l = (n : ℕ) → n < l.number → IsScalar n → (says l.data l.condition).of_each n
