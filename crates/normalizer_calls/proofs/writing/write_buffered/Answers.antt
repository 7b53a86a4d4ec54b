use Rattle.std.proofs.Common.{◌≡◌, rules, Err}
use Rattle.normalizer_iterators.specs.declared.error.NormalizeError.TheVariants.{Sink}
use Rattle.normalizer_calls.proofs.written_forms.MemberLemmas.{SpellsUnless-list, list_gives-front, list_gives-none}
use Rattle.normalizer_calls.proofs.written_forms.WritingLemmas.{WroteSoFar-none, WroteSoFar-more, WritesText-all, WritesText-refused}
use Rattle.normalizer_calls.proofs.writing.write_buffered.Goals as goal

pub loop-character-init : goal.loop-character-init
loop-character-init g c = (c.requires, WroteSoFar-none)

pub loop-character-preserved : goal.loop-character-preserved
loop-character-preserved g c = (
  c.in-Some.ensures.agrees c.loop-character.invariant.0,
  WroteSoFar-more c.loop-character.invariant.1 (list_gives-front _ _ _ (rw c.in-Some.is at (c.pop.ensures.some c.loop-character.invariant.0))) (rw c.in_ok-write_char.was at c.write_char.ensures),
)

pub returns-in_err-write_char-clause-text : goal.returns-in_err-write_char-clause-text
returns-in_err-write_char-clause-text g c =
    let is : c.from_residual.result ≡ Err Sink = search rules in
    rw is
    (WritesText-refused c.loop-character.invariant.1 (list_gives-front _ _ _ (rw c.in-Some.is at (c.pop.ensures.some c.loop-character.invariant.0))) c.in_err-write_char.ensures (SpellsUnless-list _))

pub returns-clause-text : goal.returns-clause-text
returns-clause-text g c =
    WritesText-all c.loop-character.invariant.1 (list_gives-none _ c.in_default.ensures.none) (SpellsUnless-list _)
