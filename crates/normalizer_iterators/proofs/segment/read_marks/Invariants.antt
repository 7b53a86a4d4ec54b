use Rattle.std.proofs.Common.{◌-◌, [], length}
use Rattle.normalizer_tables.specs.Characters.{has_class_form}
use Rattle.normalizer_tables.specs.Readings.{reading_by}
use Rattle.normalizer_iterators.specs.inner.MarkReads.{MarksReadTo}
use Rattle.normalizer_iterators.proofs.segment.read_marks.Given as goal

abbrev pub invariant-loop-place : goal.invariant-loop-place
invariant-loop-place g l =
    MarksReadTo (has_class_form l.characters) (reading_by l.characters l.fn.ignored []) g.U.Units.encoding (g.U.Units.units l.units) l.fn.position l.initial.waiting l.place l.waiting

abbrev pub decreases-loop-place : goal.decreases-loop-place
decreases-loop-place g l = length (g.U.Units.units l.units) - l.place
