use Rattle.std.proofs.Common.{rules, ◌++◌, append_assoc, append-nil, sym, ap, ◌∙◌}
use Rattle.normalizer_iterators.proofs.items.FallibleRuns.{Yields-more}
use Rattle.normalizer_iterators.specs.declared.error.NormalizeError.TheVariants.{Memory}
use Rattle.normalizer_iterators.proofs.collecting.collected.Goals as goal

pub loop-item-preserved : goal.loop-item-preserved
loop-item-preserved g c =
    let came = rw c.in_ok-item.was at c.in-Some.ensures.steps in
    record {
      can = search (rules, c.in-Some.ensures.goes);
      ends = search (rules, c.in-Some.ensures.goes);
      text = λ x h.
          let before = c.loop-item.invariant.text x h in
          let next = c.text_comes_unless_a_fault_does.ensures.next Memory _ _ _ before.0 came before.1 in (
            next.0,
            next.2,
            before.2 ∙ ap (λ cs. c.loop-item.characters.items ++ cs) {x = before.0} next.1
                ∙ sym (append_assoc c.loop-item.characters.items _ _)
                ∙ ap (λ cs. cs ++ next.0) (sym c.in-Ok.ensures.items),
          );
      run = rw c.in-Ok.ensures.items
          (Yields-more g.I.Iterator.next_gives c.args.items c.loop-item.characters.items _ _ _ c.loop-item.invariant.run came);
    }

pub returns-in_err-item-clause-text : goal.returns-in_err-item-clause-text
returns-in_err-item-clause-text g c x h =
    let before = c.loop-item.invariant.text x h in
    let memory = (c.text_comes_unless_a_fault_does.ensures.refused Memory _ _ _ before.0 (rw c.in_err-item.was at c.in-Some.ensures.steps) before.1).0 in
    search (rules, memory, c.from_residual.ensures)

pub returns-clause-text : goal.returns-clause-text
returns-clause-text g c x h =
    let before = c.loop-item.invariant.text x h in
    let ended = (c.text_comes_unless_a_fault_does.ensures.end Memory _ _ before.0 c.in-None.ensures.steps before.1).0 in
    (sym (before.2 ∙ ap (λ cs. c.loop-item.characters.items ++ cs) ended ∙ append-nil _), tt)
