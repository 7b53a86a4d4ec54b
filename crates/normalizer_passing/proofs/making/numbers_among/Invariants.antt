use Rattle.normalizer_passing.specs.inner.Kept.{AreAmong}
use Rattle.normalizer_passing.proofs.making.numbers_among.Given as goal

abbrev pub invariant-loop-place : goal.invariant-loop-place
invariant-loop-place l = AreAmong l.places.items l.numbers l.place l.among.items
