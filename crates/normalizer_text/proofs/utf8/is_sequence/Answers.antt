use Rattle.std.proofs.Common.{arith, sym, ◌∙◌}
use Rattle.std.proofs.lemmas.Bool.{false≢true, leb-true}
use Rattle.normalizer_text.proofs.sequences.SubpartLemmas.{sequence-four, sequence-one, sequence-three, sequence-two}
use Rattle.normalizer_text.proofs.utf8.is_sequence.Goals as goal
use Rattle.normalizer_text.proofs.utf8.is_sequence.Goals.{then-leads_four, else-leads_four}

pub returns-in-len1 : goal.returns-in-len1
returns-in-len1 c = λ low. sequence-one c.args.bytes.now (omega arith) (leb-true _ _ low)

pub returns-then-leads_two : goal.returns-then-leads_two
returns-then-leads_two c = λ second.
    let lead = c.leads_two.ensures c.if-leads_two.true in
    sequence-two c.args.bytes.now (omega arith) lead.0 lead.1 (sym c.is_continuation.ensures ∙ second)

pub returns-then-leads_three : goal.returns-then-leads_three
returns-then-leads_three c = λ third.
    sequence-three c.args.bytes.now (omega arith) (c.leads_three.ensures c.if-leads_three.true) (sym c.is_continuation-then-leads_three.ensures ∙ third)

pub returns-then-is_continuation : goal.returns-then-is_continuation
returns-then-is_continuation c = λ fourth. elim c.if-leads_four.branch [
  | then-leads_four w ↦ sequence-four c.args.bytes.now (omega arith) (c.leads_four.ensures w.if-leads_four.true)
      (sym w.is_continuation-then-leads_four.ensures ∙ sym w.value-is ∙ c.if-is_continuation.true) (sym c.is_continuation-then-is_continuation.ensures ∙ fourth)
  | else-leads_four w ↦ absurd (false≢true (sym w.if-leads_four.false ∙ sym w.value-is ∙ c.if-is_continuation.true))
]
