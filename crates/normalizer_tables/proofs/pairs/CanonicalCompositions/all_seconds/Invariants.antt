use Rattle.normalizer_tables.proofs.composites.AllSeconds.{HasJamoTo, HasSecondsTo}
use Rattle.normalizer_tables.proofs.pairs.CanonicalCompositions.all_seconds.Given as goal

abbrev pub invariant-loop-number : goal.invariant-loop-number
invariant-loop-number l = HasJamoTo l.number l.seconds.items

abbrev pub invariant-loop-place : goal.invariant-loop-place
invariant-loop-place l = HasSecondsTo l.self l.place l.seconds.items
