use Rattle.std.proofs.Common.{◌≡◌, ◌∷◌, ◌++◌, [], rules, sym, append-nil, Err}
use Rattle.icu_normalizer.proofs.results.ItemsSoFar.{CameSoFar-more, CameSoFar-none}
use Rattle.icu_normalizer_c.specs.Taken.{taken_by}
use Rattle.icu_normalizer_c.proofs.BufferLemmas.{taken-more}
use Rattle.icu_normalizer_c.proofs.FormLemmas.{overwrites-items, overwrites-items_fault}
use Rattle.icu_normalizer_c.proofs.writing.overwrite_items.Goals as goal

pub loop-item-init : goal.loop-item-init
loop-item-init g c = record {
  can = rw c.into_iter-item-iterator.ensures.into_iter_gives c.requires.can;
  ends = rw c.into_iter-item-iterator.ensures.into_iter_gives c.requires.ends;
  took = (
    [],
    sym (append-nil (taken_by c.new-buffer.result)),
    rw c.into_iter-item-iterator.ensures.into_iter_gives (CameSoFar-none _),
  );
}

pub loop-item-preserved : goal.loop-item-preserved
loop-item-preserved g c =
    let so_far = c.loop-item.invariant.took in
    let took = c.take_in_utf32.ensures in
    record {
      can = search (rules, c.in-Some.ensures.goes);
      ends = search (rules, c.in-Some.ensures.goes);
      took = (
        so_far.0 ++ c.in_ok-item.field-0 ∷ [],
        taken-more c.new-buffer.result c.loop-item.buffer c.take_in_utf32.new.self so_far.0 _ so_far.1 took.same_reference took.room took.history,
        CameSoFar-more so_far.2 _ (rw c.in_ok-item.was at c.in-Some.ensures.steps),
      );
    }

pub returns-in_err-item : goal.returns-in_err-item
returns-in_err-item g c = λ x h.
    let so_far = c.loop-item.invariant.took in
    let is : c.from_residual.result ≡ Err c.in_err-item.field-0.0 = search rules in
    rw is
    (overwrites-items_fault _ _ c.new-buffer.result c.loop-item.buffer c.new-buffer.ensures.history c.new-buffer.ensures.room (search rules) so_far.0 so_far.1
    so_far.2 _ (rw c.in_err-item.was at c.in-Some.ensures.steps) x h)

pub returns : goal.returns
returns g c = λ x h.
    let so_far = c.loop-item.invariant.took in
    overwrites-items _ _ c.new-buffer.result c.loop-item.buffer c.new-buffer.ensures.history c.new-buffer.ensures.room (search rules) so_far.0 so_far.1
    so_far.2 _ c.count.ensures c.in-None.ensures.steps x h
