use Rattle.std.proofs.Common.{[]}
use Rattle.std.specs.Iterator.{size}
use Rattle.normalizer_tables.specs.Characters.{has_class_form}
use Rattle.normalizer_tables.specs.Readings.{reading_by}
use Rattle.normalizer_iterators.specs.Reads.{character_of, HasOwnWords}
use Rattle.normalizer_iterators.specs.ToCome.{reads_left}
use Rattle.normalizer_iterators.proofs.reads.ReadingLemmas.{ReadsAhead}
use Rattle.normalizer_iterators.proofs.reading.read_on.Given as goal

abbrev pub invariant-loop-next : goal.invariant-loop-next
invariant-loop-next g l = record {
  ahead :
      ReadsAhead g.I.Iterator (has_class_form l.characters)
      (reading_by l.characters l.ignored []) (character_of l.fn.first) l.initial.delegate l.initial.waiting (character_of l.next) l.delegate l.waiting;
  words : HasOwnWords l.characters l.next;
}

abbrev pub decreases-loop-next : goal.decreases-loop-next
decreases-loop-next g l = reads_left (character_of l.next) (size (g.I.Iterator.remaining l.delegate))
