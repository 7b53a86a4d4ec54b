use Rattle.normalizer_passing.proofs.UnitLemmas.{AreUnitsTo}
use Rattle.normalizer_passing.proofs.making.units_of.Given as goal

abbrev pub invariant-loop-place : goal.invariant-loop-place
invariant-loop-place l = AreUnitsTo l.initial.blocks.items l.numbers l.blocks.items l.place l.units.items
