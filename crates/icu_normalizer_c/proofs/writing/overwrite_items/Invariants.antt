use Rattle.std.proofs.Common.{◌≡◌, ℕ, List, ◌++◌}
use Rattle.icu_normalizer.proofs.results.ItemsSoFar.{CameSoFar}
use Rattle.icu_normalizer_c.specs.Taken.{taken_by}
use Rattle.icu_normalizer_c.proofs.writing.overwrite_items.Given as goal

abbrev pub invariant-loop-item : goal.invariant-loop-item
invariant-loop-item g l = record {
  can : (goal.iterator-loop-item g).can_next l.item-iterator;
  ends : (goal.iterator-loop-item g).is_finite l.item-iterator;
  took : (front : List ℕ) × (taken_by l.buffer ≡ taken_by l.initial.buffer ++ front)
      × CameSoFar g.I.Iterator.next_gives l.fn.items front l.item-iterator;
}
