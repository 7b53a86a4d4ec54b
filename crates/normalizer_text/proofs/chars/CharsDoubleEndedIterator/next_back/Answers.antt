use Rattle.normalizer_text.specs.Encodings.{first_in}
use Rattle.std.proofs.Common.{◌-◌, sym, subst}
use Rattle.normalizer_text.specs.DecodingSteps.{IsBoundary}
use Rattle.normalizer_text.proofs.steps.StepBoundaries.{boundary-last}
use Rattle.normalizer_text.proofs.chars.CharsDoubleEndedIterator.next_back.Goals as goal

pub before-self-inside-requires : goal.before-self-inside-requires
before-self-inside-requires g c =
    let e = g.U.Units.encoding in
    subst (λ n. IsBoundary (first_in e) (g.U.Units.units c.self.inside.units) (n - c.in_ok-step.step.width)) (sym c.len.ensures)
    (boundary-last e (g.U.Units.units c.self.inside.units) c.in_ok-step.step c.in_ok-step.ensures)
