use Rattle.std.proofs.Common.{arith, sym, ◌∙◌}
use Rattle.normtool_command.proofs.LabelLemmas.{TellsLabels-valid, TellsLabels-other}
use Rattle.normtool_command.proofs.worker.labels.Goals as goal
use Rattle.normtool_command.proofs.worker.labels.Goals.{then-branch+in_ok-extend_from_slice+in_ok-extend_from_slice-2, else-branch}

pub loop-field-preserved : goal.loop-field-preserved
loop-field-preserved c = elim c.if-branch.branch [
  | then-branch+in_ok-extend_from_slice+in_ok-extend_from_slice-2 w ↦
      TellsLabels-valid _ c.deref-field-items.result.now c.loop-field.field-index _ _ _ _ _ _ (omega arith) (sym c.in_ok-is_valid.ensures.valid ∙ w.if-branch.true)
      w.answer-is w.in_ok-extend_from_slice.ensures.items (rw w.lines-is w.in_ok-extend_from_slice-2.ensures.items) c.loop-field.invariant
  | else-branch w ↦
      TellsLabels-other _ c.deref-field-items.result.now c.loop-field.field-index _ _ _ _ _ (omega arith) (sym c.in_ok-is_valid.ensures.valid ∙ w.if-branch.false)
      w.answer-is (rw w.lines-is) c.loop-field.invariant
]
