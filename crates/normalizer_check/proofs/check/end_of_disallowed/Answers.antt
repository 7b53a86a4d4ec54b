use Rattle.std.proofs.Common.{arith, subst, sym}
use Rattle.normalizer_check.specs.inner.Walk.{IsEndOfEqualWords}
use Rattle.normalizer_check.proofs.conditions.WalkLemmas.{IsEndOfEqualWords-above, IsEndOfEqualWords-below, IsEndOfEqualWords-low}
use Rattle.normalizer_check.proofs.check.end_of_disallowed.Goals as goal

pub returns-then-number-lt-CODE_POINTS : goal.returns-then-number-lt-CODE_POINTS
returns-then-number-lt-CODE_POINTS c =
    IsEndOfEqualWords-above _ _ _ (omega (arith, c.if-number-gt65533.true)) (omega (arith, c.if-number-lt-CODE_POINTS.true)) c.requires.word c.end_of_disallowed.ensures

pub returns-then-number-lt65533 : goal.returns-then-number-lt65533
returns-then-number-lt65533 c = λ sound.
    subst (IsEndOfEqualWords c.args.data.now sound c.args.number) (sym c.min.ensures)
    (IsEndOfEqualWords-below _ _ _ (omega (arith, c.if-number-ge57344.true)) (omega (arith, c.if-number-lt65533.true)) c.requires.word c.end_of_disallowed-then-number-lt65533.ensures sound)

pub returns-then-number-lt-S_BASE : goal.returns-then-number-lt-S_BASE
returns-then-number-lt-S_BASE c = λ sound.
    subst (IsEndOfEqualWords c.args.data.now sound c.args.number) (sym c.min-then-number-lt-S_BASE.ensures)
    (IsEndOfEqualWords-low _ _ _ c.if-number-lt-S_BASE.true c.requires.word c.end_of_disallowed-then-number-lt-S_BASE.ensures sound)
