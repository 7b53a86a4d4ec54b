use Rattle.normalizer_iterators.proofs.reads.ReadingLemmas.{PushedSoFar}
use Rattle.normalizer_iterators.proofs.reading.push_from.Given as goal

abbrev pub invariant-loop-place : goal.invariant-loop-place
invariant-loop-place l = PushedSoFar l.characters l.members l.first l.place l.initial.waiting l.waiting
