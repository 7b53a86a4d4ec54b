use Rattle.std.proofs.Common.{◌+◌, ◌<◌, get_or, arith, subst, sym}
use Rattle.normalizer_passing.specs.PassBytes.{least_after}
use Rattle.normalizer_text.proofs.scans.GroupLemmas.{IsInGroup, IsInGroup-character, IsInGroup-some, IsInGroup-start, IsInGroup-unit, PassesTo-end, PassesTo-other}
use Rattle.normalizer_text.proofs.groups.passed_in_group.Goals as goal
use Rattle.normalizer_text.proofs.groups.passed_in_group.Goals.{then-byte-least+else-byte-least-2, else-byte-least}

pub loop-end-init : goal.loop-end-init
loop-end-init c =
    (IsInGroup-start c.args.bytes.now c.args.units.now c.args.from c.args.to c.requires.paired c.requires.within c.args.least c.requires.passed, omega arith)

pub returns-then-byte-least-2 : goal.returns-then-byte-least-2
returns-then-byte-least-2 c =
    PassesTo-other c.args.bytes.now c.args.units.now c.args.from c.args.to c.requires.paired c.requires.within c.loop-end.end c.loop-end.least _
    c.loop-end.invariant.0 c.loop-end-test.true c.of_unit-byte.ensures (let f = (c.type_inv.units c.loop-end.end).fits in omega arith) c.if-byte-least.true

pub least_after-least-requires : goal.least_after-least-requires
least_after-least-requires c =
    let some = IsInGroup-some c.args.bytes.now c.args.units.now c.args.from c.args.to c.loop-end.end c.loop-end.least c.loop-end.invariant.0 in
    elim c.if-byte-least.branch [
      | then-byte-least+else-byte-least-2 w ↦ omega (arith, w.if-byte-least-2.false, w.byte-is)
      | else-byte-least w ↦ omega (arith, w.if-byte-least.false, w.byte-is)
    ]

pub loop-end-preserved : goal.loop-end-preserved
loop-end-preserved c =
    let bytes = c.args.bytes.now in
    let units = c.args.units.now in
    let within = c.loop-end.invariant.0 in
    let fits : get_or units c.loop-end.end 0 < 0x10000 = let f = (c.type_inv.units c.loop-end.end).fits in omega arith in (
      subst (IsInGroup bytes units c.args.from c.args.to (c.loop-end.end + c.if-byte-least.width)) (sym c.least_after-least.ensures)
          (elim c.if-byte-least.branch [
            | then-byte-least+else-byte-least-2 w ↦
                subst (λ b. IsInGroup bytes units c.args.from c.args.to (c.loop-end.end + c.if-byte-least.width) (least_after b)) (sym w.byte-is)
                (subst (λ n. IsInGroup bytes units c.args.from c.args.to (c.loop-end.end + n) (least_after w.byte_at.result.0)) (sym w.width-is)
                (IsInGroup-character bytes units c.args.from c.args.to c.requires.paired c.requires.within c.loop-end.end c.loop-end.least _ within c.loop-end-test.true c.of_unit-byte.ensures fits
                w.if-byte-least.true _ _ w.byte_at.ensures w.if-byte-least-2.false))
            | else-byte-least w ↦
                subst (λ b. IsInGroup bytes units c.args.from c.args.to (c.loop-end.end + c.if-byte-least.width) (least_after b)) (sym w.byte-is)
                (subst (λ n. IsInGroup bytes units c.args.from c.args.to (c.loop-end.end + n) (least_after c.of_unit-byte.result)) (sym w.width-is)
                (IsInGroup-unit bytes units c.args.from c.args.to c.requires.paired c.requires.within c.loop-end.end c.loop-end.least _ within c.loop-end-test.true c.of_unit-byte.ensures fits
                w.if-byte-least.false c.loop-end.invariant.1))
          ]),
      omega arith,
    )

pub returns-after-loop-end : goal.returns-after-loop-end
returns-after-loop-end c =
    PassesTo-end c.args.bytes.now c.args.units.now c.args.from c.args.to c.requires.paired c.requires.within c.loop-end.end c.loop-end.least c.loop-end.invariant.0 c.loop-end-test.false
