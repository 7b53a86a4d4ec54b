use Rattle.std.proofs.Common.{rules, ◌++◌, append_assoc, append-nil, sym, ap, ◌∙◌}
use Rattle.std.specs.Prelude.{encode_utf8_all, string_bytes}
use Rattle.icu_normalizer.specs.NormalizeError.TheVariants.{Memory}
use Rattle.normalizer_command.proofs.mapping.append_items.Goals as goal

pub loop-item-preserved : goal.loop-item-preserved
loop-item-preserved g c =
    let came = rw c.in_ok-item.was at c.in-Some.ensures.steps in
    let output = string_bytes c.loop-item.output in
    record {
      can = search (rules, c.in-Some.ensures.goes);
      ends = search (rules, c.in-Some.ensures.goes);
      text = λ x h.
          let before = c.loop-item.invariant.text x h in
          let next = c.text_comes_unless_a_fault_does.ensures.next Memory _ _ _ before.0 came before.1 in (
            next.0,
            next.2,
            before.2 ∙ ap (λ cs. output ++ encode_utf8_all cs) {x = before.0} next.1
                ∙ sym (append_assoc output _ (encode_utf8_all next.0))
                ∙ ap (λ bs. bs ++ encode_utf8_all next.0) (sym c.in-Ok.ensures.bytes),
          );
    }

pub returns-in_err-item : goal.returns-in_err-item
returns-in_err-item g c x h =
    let before = c.loop-item.invariant.text x h in
    let memory = (c.text_comes_unless_a_fault_does.ensures.refused Memory _ _ _ before.0 (rw c.in_err-item.was at c.in-Some.ensures.steps) before.1).0 in
    search (rules, memory, c.from_residual.ensures)

pub returns : goal.returns
returns g c x h =
    let before = c.loop-item.invariant.text x h in
    let ended = (c.text_comes_unless_a_fault_does.ensures.end Memory _ _ before.0 c.in-None.ensures.steps before.1).0 in
    (sym (before.2 ∙ ap (λ cs. string_bytes c.loop-item.output ++ encode_utf8_all cs) ended ∙ append-nil _), tt)
