use Rattle.std.proofs.Common.{◌-◌, length, []}
use Rattle.std.specs.Prelude.{IsTrue}
use Rattle.normalizer_tables.specs.Readings.{reading_by}
use Rattle.normalizer_tables.specs.declared.characters.IgnoredCharacters.TheVariants.{Dropped}
use Rattle.normalizer_iterators.specs.Segment.{EndsFront, HasRead, IsSmall}
use Rattle.normalizer_calls.specs.Forms.{HasShortUnits}
use Rattle.normalizer_calls.proofs.segment.read_segment.Given as goal

abbrev pub invariant-loop-end : goal.invariant-loop-end
invariant-loop-end g l =
    let units = g.U.Units.units l.units in
    EndsFront g.U.Units.encoding units l.end
    × (IsTrue l.fits → HasRead (reading_by (g.N.Forming.read_by l.normalizer) Dropped []) g.U.Units.encoding units l.end l.buffer
    × (HasShortUnits (g.N.Forming.made_form l.normalizer) g.U.Units.encoding units → IsSmall l.buffer))

abbrev pub decreases-loop-end : goal.decreases-loop-end
decreases-loop-end g l = length (g.U.Units.units l.units) - l.end
