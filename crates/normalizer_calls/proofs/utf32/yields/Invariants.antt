use Rattle.normalizer_calls.proofs.results.Utf32Lemmas.{SameSoFar}
use Rattle.normalizer_calls.proofs.utf32.yields.Given as goal

abbrev pub invariant-loop-item : goal.invariant-loop-item
invariant-loop-item g l = record {
  can : (goal.iterator-loop-item g).can_next l.item-iterator;
  ends : (goal.iterator-loop-item g).is_finite l.item-iterator;
  same : SameSoFar g.I.Iterator.next_gives l.fn.items l.units l.item-iterator l.left;
}
