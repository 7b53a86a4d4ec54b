use Rattle.std.proofs.Common.{arith, ap, inl, subst, sym}
use Rattle.std.proofs.lemmas.Bool.{true≢false}
use Rattle.std.proofs.lemmas.Option.{get_or_from_slice_get}
use Rattle.normalizer_tables.proofs.composites.AllSeconds.{HasJamoTo-more, HasSecondsTo, HasSecondsTo-more, HasSecondsTo-none, HasSeconds-all}
use Rattle.normalizer_tables.proofs.pairs.CanonicalCompositions.all_seconds.Goals as goal
use Rattle.normalizer_tables.proofs.pairs.CanonicalCompositions.all_seconds.Goals.{in-Some+in_ok-push, in_default}

pub loop-number-init : goal.loop-number-init
loop-number-init c = λ n from below. absurd (omega arith)

pub loop-number-preserved : goal.loop-number-preserved
loop-number-preserved c = elim c.match-from_u32.branch [
  | in-Some+in_ok-push w ↦ rw (w.seconds-is, w.in_ok-push.ensures.items, w.in-Some.ensures.value.1) (HasJamoTo-more c.loop-number.number c.loop-number.seconds.items c.loop-number.invariant)
  | in_default w ↦ absurd (true≢false (sym (w.in_default.ensures.succeeds (inl (omega arith)))))
]

pub loop-place-init : goal.loop-place-init
loop-place-init c = HasSecondsTo-none c.args.self.now c.loop-number.seconds.items (λ n from below. c.loop-number.invariant n from (omega arith))

pub loop-place-preserved : goal.loop-place-preserved
loop-place-preserved c =
    rw c.in_ok-push-2.ensures.items (HasSecondsTo-more c.args.self.now c.loop-place.place c.loop-place.seconds.items _ (rw (← c.self.view_is) (omega (arith, c.loop-place-test.true, c.len-place-end.ensures))) (rw (← c.self.view_is) (sym (ap (λ p. p.0) (get_or_from_slice_get c.self.inside.pairs c.loop-place.place c.at.result (0, 0, 0) c.at.ensures)))) c.loop-place.invariant)

pub returns : goal.returns
returns c = HasSeconds-all c.args.self.now c.loop-place.seconds.items (subst (λ k. HasSecondsTo c.args.self.now k c.loop-place.seconds.items) (rw (← c.self.view_is) (omega (arith, c.loop-place.auto.place-end, c.len-place-end.ensures, c.loop-place-test.false))) c.loop-place.invariant)
