use Rattle.std.proofs.Common.{arith, ◌∙◌}
use Rattle.normalizer_text.proofs.steps.StepBoundaries.{boundary-le}
use Rattle.normalizer_calls.proofs.passthrough.RunParts.{passed_to_end}
use Rattle.normalizer_calls.proofs.runs.passthrough_end.Goals as goal

pub returns-then-end-len : goal.returns-then-end-len
returns-then-end-len g c = (passed_to_end _ _ _ _ c.bytes-bytes.ensures _ _ _ c.end_of_passing-end.ensures (c.if-end-len.true ∙ c.len.ensures), tt)

pub passed_before-requires-clause-some : goal.passed_before-requires-clause-some
passed_before-requires-clause-some g c =
    let most = boundary-le g.U.Units.encoding (g.U.Units.units c.args.units) _ c.end_of_passing-end.ensures.to.boundary in
    omega (arith, c.if-end-len.false, c.len.ensures)
