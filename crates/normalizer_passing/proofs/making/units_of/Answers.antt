use Rattle.std.proofs.Common.{arith, inl, inr, subst}
use Rattle.normalizer_passing.proofs.UnitLemmas.{AreUnits-all, AreUnitsTo, more-high, more-low, more-single}
use Rattle.normalizer_passing.proofs.making.units_of.Goals as goal
use Rattle.normalizer_passing.proofs.making.units_of.Goals.{in-864-to-879+in_ok-put_block-in-864-to-879, in-880-to-895, in_default, in_default-via-then-place-lt864, in_default-via-else-place-lt864+else-this-lt880+else-this-lt896}

pub loop-place-preserved : goal.loop-place-preserved
loop-place-preserved c = rw c.in_ok-push.ensures.items (elim c.if-place-lt864.branch [
  | in-864-to-879+in_ok-put_block-in-864-to-879 w ↦ rw (w.blocks-is, w.push-is) (more-high _ _ c.requires.blocks c.requires.numbered _ _ _ (omega arith) c.loop-place.invariant _ _ _ (omega arith) (omega arith) w.bytes_of_high.ensures w.in_ok-put_block-in-864-to-879.ensures)
  | in-880-to-895 w ↦ rw (w.blocks-is, w.push-is) (more-low _ _ c.requires.blocks c.requires.numbered _ _ _ (omega arith) c.loop-place.invariant (omega arith) (omega arith))
  | in_default w ↦ rw (w.blocks-is, w.push-is) (more-single _ _ c.requires.blocks c.requires.numbered _ _ _ (omega arith) c.loop-place.invariant (elim w.in_default.branch [
    | in_default-via-then-place-lt864 w' ↦ inl (omega arith)
    | in_default-via-else-place-lt864+else-this-lt880+else-this-lt896 w' ↦ inr (omega arith)
  ]))
])

pub returns-clause-units : goal.returns-clause-units
returns-clause-units c =
    AreUnits-all _ _ c.requires.blocks c.requires.numbered _ _
    (subst (λ n. AreUnitsTo c.args.blocks.now.items c.args.numbers.now c.loop-place.blocks.items n c.loop-place.units.items) (omega arith) c.loop-place.invariant)
