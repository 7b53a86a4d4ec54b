use Rattle.std.proofs.Common.{sym, subst, ◌∙◌}
use Rattle.normalizer_text.specs.DecodingSteps.{IsLastStep}
use Rattle.normalizer_text.specs.Encodings.{first_in}
use Rattle.normalizer_text.proofs.scans.PassingLemmas.{IsLastStarter-found, IsLastStarter-none, MarksFrom-boundary, MarksFrom-end, MarksFrom-more}
use Rattle.normalizer_text.proofs.passing.last_starter.Goals as goal

pub loop-step-init : goal.loop-step-init
loop-step-init g c = MarksFrom-end g.U.Units.encoding c.args.bytes.now (g.U.Units.units c.args.units) c.args.end c.requires

pub before-requires : goal.before-requires
before-requires g c = MarksFrom-boundary g.U.Units.encoding c.args.bytes.now (g.U.Units.units c.args.units) c.args.end c.requires c.loop-step.stop c.loop-step.invariant

pub returns-then-of : goal.returns-then-of
returns-then-of g c =
    let e = g.U.Units.encoding in
    let units = g.U.Units.units c.args.units in
    IsLastStarter-found e c.args.bytes.now units c.args.end c.requires c.loop-step.stop c.loop-step.invariant c.in-Some.step
    (subst (λ us. IsLastStep (first_in e) us c.in-Some.step) c.before-in-loop-step.ensures c.in-Some.ensures) (sym c.of.ensures ∙ c.if-of.true)

pub loop-step-preserved : goal.loop-step-preserved
loop-step-preserved g c =
    let e = g.U.Units.encoding in
    let units = g.U.Units.units c.args.units in
    MarksFrom-more e c.args.bytes.now units c.args.end c.requires c.loop-step.stop c.loop-step.invariant c.in-Some.step
    (subst (λ us. IsLastStep (first_in e) us c.in-Some.step) c.before-in-loop-step.ensures c.in-Some.ensures) (λ starter. c.if-of.false (c.of.ensures ∙ starter))

pub returns : goal.returns
returns g c =
    IsLastStarter-none g.U.Units.encoding c.args.bytes.now (g.U.Units.units c.args.units) c.args.end c.requires c.loop-step.stop c.loop-step.invariant
    (sym c.before-in-loop-step.ensures ∙ c.in_default.ensures)
