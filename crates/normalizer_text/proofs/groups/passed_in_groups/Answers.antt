use Rattle.std.proofs.Common.{arith}
use Rattle.normalizer_text.specs.Encodings.{Encoding}
use Rattle.normalizer_text.proofs.scans.PassingLemmas.{PassesTo-low, PassesTo-start}
use Rattle.normalizer_text.proofs.steps.StepBoundaries.{boundary-le}
use Rattle.normalizer_text.proofs.groups.passed_in_groups.Goals as goal

pub loop-end-init : goal.loop-end-init
loop-end-init c = (PassesTo-start Encoding.Utf16 c.args.bytes.now c.args.units.now, omega arith)

pub overflow_sub-units : goal.overflow_sub-units
overflow_sub-units c = boundary-le Encoding.Utf16 c.args.units.now c.loop-end.end c.loop-end.invariant.0.boundary

pub loop-end-preserved-in-Some : goal.loop-end-preserved-in-Some
loop-end-preserved-in-Some c = (
  PassesTo-low Encoding.Utf16 c.args.bytes.now c.args.units.now c.loop-end.end c.loop-end.least c.low-low.result.number _ c.loop-end.invariant.0
      c.low-low.result.within c.low-low.ensures c.in-Some.ensures.low c.in-Some.ensures.further c.loop-end.invariant.1,
  omega arith,
)
