use Rattle.normalizer_iterators.proofs.composing.InPlaceLemmas.{ComposedTo}
use Rattle.normalizer_iterators.proofs.waiting.WaitingList.compose.Given as goal

abbrev pub invariant-loop-place : goal.invariant-loop-place
invariant-loop-place l = ComposedTo l.pairs l.fn.starter l.initial.self l.composite l.self l.place l.unblocked
