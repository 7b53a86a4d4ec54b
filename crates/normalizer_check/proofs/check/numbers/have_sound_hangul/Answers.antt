use Rattle.std.proofs.Common.{arith}
use Rattle.std.proofs.lemmas.Bool.Decides.{nat_tests}
use Rattle.normalizer_tables.specs.conditions.CharacterConditions.{is_composing_jamo}
use Rattle.normalizer_tables.specs.Hangul.{is_hangul_syllable}
use Rattle.normalizer_check.proofs.check.numbers.have_sound_hangul.Goals as goal

pub returns-then-not-is_sound_jamo : goal.returns-then-not-is_sound_jamo
returns-then-not-is_sound_jamo c = (λ no. cc, λ all. c.if-not-is_sound_jamo.ensures.1 (all c.loop-jamo.jamo).jamo)

pub returns : goal.returns
unfolding is_hangul_syllable is_composing_jamo
returns c = (
  λ yes n. record { syllable = c.have_word.ensures.0 yes n; jamo = λ is. c.loop-jamo.invariant n (grind (arith, nat_tests)) is },
  λ all. c.have_word.ensures.1 (λ n. (all n).syllable),
)
