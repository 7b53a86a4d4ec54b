use Rattle.std.proofs.Common.{◌≡◌, ℕ, ◌<◌, true}
use Rattle.normalizer_tables.specs.conditions.CharacterConditions.{is_composing_jamo, IsPlainStarter}
use Rattle.normalizer_check.proofs.check.numbers.have_sound_hangul.Given as goal

-- all jamo so far are sound
abbrev pub invariant-loop-jamo : goal.invariant-loop-jamo
invariant-loop-jamo l = (n : ℕ) → n < l.jamo → is_composing_jamo n ≡ true → IsPlainStarter l.data n
