use Rattle.std.proofs.Common.{◌-◌, drop, length}
use Rattle.normalizer_calls.proofs.written_forms.MemberLemmas.{list_gives}
use Rattle.normalizer_calls.proofs.written_forms.WritingLemmas.{WroteSoFar}
use Rattle.normalizer_calls.proofs.writing.write_members.Given as goal

abbrev pub invariant-loop-place : goal.invariant-loop-place
invariant-loop-place g l =
    WroteSoFar g.U.Units.encoding g.O.Output list_gives l.members l.initial.output (drop l.place l.members) l.output

abbrev pub decreases-loop-place : goal.decreases-loop-place
decreases-loop-place g l = length l.members - l.place
