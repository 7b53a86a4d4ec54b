use Rattle.std.proofs.Common.{◌≡◌, ℕ, ◌<◌, ◌≤◌, false}
use Rattle.normalizer_tables.specs.Characters.{word_of}
use Rattle.normalizer_tables.specs.Words.{is_class_form}
use Rattle.normalizer_check.proofs.check.numbers.have_no_surrogate_classes.Given as goal

-- no surrogate so far has a class form
abbrev pub invariant-loop-surrogate : goal.invariant-loop-surrogate
invariant-loop-surrogate l = (n : ℕ) → 0xD800 ≤ n → n < l.surrogate → is_class_form (word_of l.data n) ≡ false
