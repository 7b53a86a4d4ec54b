use Rattle.std.proofs.Common.{◌+◌, ◌<◌, arith, refl, length, subst, sym}
use Rattle.normalizer_text.specs.Passing.{PassesTo}
use Rattle.normalizer_text.proofs.scans.PassingLemmas.{PassesTo-least, PassesTo-low, PassesTo-more}
use Rattle.normalizer_text.proofs.steps.StepBoundaries.{step-some}
use Rattle.normalizer_text.proofs.passing.end_of_passing.Goals as goal

pub loop-end-init : goal.loop-end-init
loop-end-init g c = (c.passed_in_groups-end.ensures, omega arith)

pub loop-end-preserved-in-Some : goal.loop-end-preserved-in-Some
loop-end-preserved-in-Some g c = (
  PassesTo-low g.U.Units.encoding c.args.bytes.now (g.U.Units.units c.args.units) c.loop-end.end c.loop-end.least c.low-low.result.number _ c.loop-end.invariant.0
      c.low-low.result.within c.low-low.ensures c.in-Some.ensures.low c.in-Some.ensures.further c.loop-end.invariant.1,
  omega arith,
)

pub overflow_add-end : goal.overflow_add-end
overflow_add-end g c =
    let units = g.U.Units.units c.args.units in
    let more : c.loop-end.end < length units = omega (arith, c.len.ensures) in
    let some = PassesTo-least g.U.Units.encoding c.args.bytes.now units c.loop-end.end c.loop-end.least c.loop-end.invariant.0 in
    let step = step-some g.U.Units.encoding units c.loop-end.end _ more refl in
    record { fits = omega (arith, (c.byte_at-byte.ensures (omega (arith, some, c.if-byte-least.false))).1, step.1, c.len.ensures, c.len.type_inv) }

pub least_after-least-requires : goal.least_after-least-requires
least_after-least-requires g c =
    omega (arith, PassesTo-least g.U.Units.encoding c.args.bytes.now (g.U.Units.units c.args.units) c.loop-end.end c.loop-end.least c.loop-end.invariant.0, c.if-byte-least.false)

pub loop-end-smaller : goal.loop-end-smaller
loop-end-smaller g c =
    let units = g.U.Units.units c.args.units in
    let more : c.loop-end.end < length units = omega (arith, c.len.ensures) in
    let some = PassesTo-least g.U.Units.encoding c.args.bytes.now units c.loop-end.end c.loop-end.least c.loop-end.invariant.0 in
    let step = step-some g.U.Units.encoding units c.loop-end.end _ more refl in
    omega (arith, (c.byte_at-byte.ensures (omega (arith, some, c.if-byte-least.false))).1, step.0, more)

pub loop-end-preserved : goal.loop-end-preserved
loop-end-preserved g c =
    let units = g.U.Units.units c.args.units in (
      subst (PassesTo g.U.Units.encoding c.args.bytes.now units (c.loop-end.end + c.byte_at-byte.result.1)) (sym c.least_after-least.ensures)
          (PassesTo-more g.U.Units.encoding c.args.bytes.now units c.loop-end.end c.loop-end.least _ _ c.loop-end.invariant.0 (omega (arith, c.len.ensures)) c.if-byte-least.false c.byte_at-byte.ensures),
      omega (arith, c.least_after-least.type_inv),
    )
