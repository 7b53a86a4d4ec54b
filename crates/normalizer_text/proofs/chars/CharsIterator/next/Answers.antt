use Rattle.normalizer_text.proofs.steps.StepBoundaries.{boundary-first}
use Rattle.normalizer_text.proofs.chars.CharsIterator.next.Goals as goal

pub after-self-inside-requires : goal.after-self-inside-requires
after-self-inside-requires g c =
    let e = g.U.Units.encoding in
    boundary-first e (g.U.Units.units c.self.inside.units) c.in_ok-step.step c.in_ok-step.ensures
