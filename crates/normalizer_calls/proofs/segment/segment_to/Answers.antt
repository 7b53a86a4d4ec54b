use Rattle.std.proofs.Common.{arith}
use Rattle.normalizer_text.proofs.steps.StepBoundaries.{boundary-le}
use Rattle.normalizer_calls.proofs.segment.segment_to.Goals as goal

pub step_at-step-requires : goal.step_at-step-requires
step_at-step-requires g c = omega (arith, c.len.ensures, boundary-le g.U.Units.encoding (g.U.Units.units c.args.units) c.args.end c.requires.1)
