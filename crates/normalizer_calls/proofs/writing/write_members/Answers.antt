use Rattle.std.proofs.Common.{◌≡◌, ◌≤◌, length, rules, Err, arith}
use Rattle.normalizer_iterators.specs.declared.error.NormalizeError.TheVariants.{Sink}
use Rattle.normalizer_calls.proofs.written_forms.MemberLemmas.{SpellsUnless-list, list_gives-at, list_gives-end}
use Rattle.normalizer_calls.proofs.written_forms.WritingLemmas.{WroteSoFar-none, WroteSoFar-more, WritesText-all, WritesText-refused}
use Rattle.normalizer_calls.proofs.writing.write_members.Goals as goal

pub loop-place-init : goal.loop-place-init
loop-place-init g c = WroteSoFar-none

pub loop-place-preserved : goal.loop-place-preserved
loop-place-preserved g c =
    WroteSoFar-more c.loop-place.invariant
    (list_gives-at c.args.members.now c.loop-place.place c.at.result c.at.ensures) (rw c.in_ok-write_char.was at c.write_char.ensures)

pub returns-in_err-write_char-clause-text : goal.returns-in_err-write_char-clause-text
returns-in_err-write_char-clause-text g c =
    let is : c.from_residual.result ≡ Err Sink = search rules in
    rw is
    (WritesText-refused c.loop-place.invariant
    (list_gives-at c.args.members.now c.loop-place.place c.at.result c.at.ensures) c.in_err-write_char.ensures (SpellsUnless-list c.args.members.now))

pub returns-clause-text : goal.returns-clause-text
returns-clause-text g c =
    let past : length c.args.members.now ≤ c.loop-place.place = omega (arith, c.len.ensures) in
    WritesText-all c.loop-place.invariant (list_gives-end c.args.members.now c.loop-place.place past) (SpellsUnless-list c.args.members.now)
