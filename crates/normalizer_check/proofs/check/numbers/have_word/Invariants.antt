use Rattle.std.proofs.Common.{◌≡◌, ℕ, ◌<◌, ◌≤◌}
use Rattle.normalizer_tables.specs.Characters.{word_of}
use Rattle.normalizer_check.proofs.check.numbers.have_word.Given as goal

-- all so far have it
abbrev pub invariant-loop-number : goal.invariant-loop-number
invariant-loop-number l = (n : ℕ) → l.first ≤ n → n < l.number → word_of l.data n ≡ l.word
