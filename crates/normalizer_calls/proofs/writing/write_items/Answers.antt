use Rattle.std.proofs.Common.{◌≡◌, rules, Err}
use Rattle.normalizer_iterators.specs.declared.error.NormalizeError.TheVariants.{Sink}
use Rattle.normalizer_calls.proofs.written_forms.WritingLemmas.{WroteSoFar-none, WroteSoFar-more, WroteSoFar-room, WritesText-all, WritesText-fault, WritesText-refused}
use Rattle.normalizer_calls.proofs.writing.write_items.Goals as goal

pub loop-item-init : goal.loop-item-init
loop-item-init g c = record {
  can = rw c.into_iter-item-iterator.ensures.into_iter_gives c.requires.can;
  ends = rw c.into_iter-item-iterator.ensures.into_iter_gives c.requires.ends;
  wrote = rw c.into_iter-item-iterator.ensures.into_iter_gives
      (WroteSoFar-none);
}

pub loop-item-preserved : goal.loop-item-preserved
loop-item-preserved g c = record {
  can = search (rules, c.in-Some.ensures.goes);
  ends = search (rules, c.in-Some.ensures.goes);
  wrote = WroteSoFar-more c.loop-item.invariant.wrote
      (rw c.in_ok-item.was at c.in-Some.ensures.steps) (rw c.in_ok-write_char.was at c.write_char.ensures);
}

pub returns-in_err-item-clause-text : goal.returns-in_err-item-clause-text
returns-in_err-item-clause-text g c = λ x h.
    let is : c.from_residual.result ≡ Err c.in_err-item.field-0.0 = search rules in
    rw is
    (WritesText-fault c.loop-item.invariant.wrote
    (rw c.in_err-item.was at c.in-Some.ensures.steps) h)

pub returns-in_err-item-clause-room : goal.returns-in_err-item-clause-room
returns-in_err-item-clause-room g c = λ x h _.
    WroteSoFar-room c.loop-item.invariant.wrote
    (rw c.in_err-item.was at c.in-Some.ensures.steps) x h

pub returns-in_err-write_char-clause-text : goal.returns-in_err-write_char-clause-text
returns-in_err-write_char-clause-text g c = λ x h.
    let is : c.from_residual-in_err-write_char.result ≡ Err Sink = search rules in
    rw is
    (WritesText-refused c.loop-item.invariant.wrote
    (rw c.in_ok-item.was at c.in-Some.ensures.steps) c.in_err-write_char.ensures h)

pub returns-clause-text : goal.returns-clause-text
returns-clause-text g c =
    λ x h. WritesText-all c.loop-item.invariant.wrote c.in-None.ensures.steps h
