use Rattle.std.proofs.Common.{◌+◌, Some, ap, sym, ◌∙◌}
use Rattle.normalizer_ucd.proofs.Stating.{at_end, at_line, at_other}
use Rattle.normalizer_ucd.proofs.record_places.first_stating.Goals as goal

pub returns-then-states : goal.returns-then-states
returns-then-states c =
    ap Some c.at.ensures
    ∙ sym (at_line c.args.name c.args.fault
    (c.loop-index.index + 1) c.loop-index.index c.args.lines.now c.loop-index-test.true
    (sym c.states.ensures ∙ c.if-states.true))
    ∙ c.loop-index.invariant

pub loop-index-preserved : goal.loop-index-preserved
loop-index-preserved c =
    sym (at_other c.args.name c.args.fault
    (c.loop-index.index + 1) c.loop-index.index c.args.lines.now c.loop-index-test.true
    (sym c.states.ensures ∙ c.if-states.false))
    ∙ c.loop-index.invariant

pub returns : goal.returns
returns c =
    sym (at_end c.args.name c.args.fault
    (c.loop-index.index + 1) c.loop-index.index c.args.lines.now c.loop-index-test.false)
    ∙ c.loop-index.invariant
