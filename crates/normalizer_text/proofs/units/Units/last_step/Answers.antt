use Rattle.normalizer_text.proofs.steps.BackLemmas.{IsLastStep-found, IsLastStep-other}
use Rattle.normalizer_text.proofs.units.Units.last_step.Goals as goal

pub returns-then-step-len : goal.returns-then-step-len
returns-then-step-len g c =
    let e = g.Self.Units.encoding in
    IsLastStep-found e (g.Self.Units.units c.args.self)
    c.last_start-start.result c.len-len.result c.step_at-step.result
    c.last_start-start.ensures c.len-len.ensures c.step_at-step.ensures c.if-step-len.true

pub returns-else-step-len : goal.returns-else-step-len
returns-else-step-len g c =
    let e = g.Self.Units.encoding in
    IsLastStep-other e (g.Self.Units.units c.args.self)
    c.last_start-start.result c.len-len.result c.step_at-step.result c.replaced.result
    c.last_start-start.ensures c.len-len.ensures c.step_at-step.ensures c.if-step-len.false c.replaced.ensures
