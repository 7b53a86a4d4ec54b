use Rattle.normalizer_calls.proofs.written_forms.WritingLemmas.{WroteSoFar}
use Rattle.normalizer_calls.proofs.writing.write_items.Given as goal

abbrev pub invariant-loop-item : goal.invariant-loop-item
invariant-loop-item g l = record {
  can : (goal.iterator-loop-item g).can_next l.item-iterator;
  ends : (goal.iterator-loop-item g).is_finite l.item-iterator;
  wrote : WroteSoFar g.U.Units.encoding g.O.Output g.I.Iterator.next_gives l.fn.items l.initial.output l.item-iterator l.output;
}
