use Rattle.std.proofs.Common.{◌≡◌, ◌<◌, ℕ, false}
use Rattle.normalizer_tables.specs.Pairs.{is_vowel_or_trailing_jamo}
use Rattle.normalizer_tables.specs.Pairs.{pair_at}
use Rattle.normalizer_tables.proofs.pairs.has_no_jamo_second.Given as goal

abbrev pub invariant-loop-place : goal.invariant-loop-place
invariant-loop-place l = (k : ℕ) → k < l.place → is_vowel_or_trailing_jamo (pair_at l.pairs k).0 ≡ false
