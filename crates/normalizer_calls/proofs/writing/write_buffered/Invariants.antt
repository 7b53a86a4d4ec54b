use Rattle.std.proofs.Common.{length}
use Rattle.normalizer_iterators.specs.Segment.{Agrees}
use Rattle.normalizer_calls.specs.inner.FormsLeft.{form_left}
use Rattle.normalizer_calls.proofs.written_forms.MemberLemmas.{list_gives}
use Rattle.normalizer_calls.proofs.written_forms.WritingLemmas.{WroteSoFar}
use Rattle.normalizer_calls.proofs.writing.write_buffered.Given as goal

abbrev pub invariant-loop-character : goal.invariant-loop-character
invariant-loop-character g l =
    let m = g.N.Forming.made_form l.normalizer in
    Agrees m.reading l.buffer
    × WroteSoFar g.U.Units.encoding g.O.Output list_gives (form_left m l.initial.buffer) l.initial.output (form_left m l.buffer) l.output

abbrev pub decreases-loop-character : goal.decreases-loop-character
decreases-loop-character g l = length (form_left (g.N.Forming.made_form l.normalizer) l.buffer)
