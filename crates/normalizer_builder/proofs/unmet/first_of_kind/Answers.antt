use Rattle.normalizer_builder.proofs.FirstUnmet.{of_kind}
use Rattle.normalizer_builder.proofs.unmet.first_of_kind.Goals as goal

pub returns : goal.returns
returns c = rw c.asked_of.ensures (of_kind c.args.packed.now c.args.kind _ c.first_failing_of_kind.ensures)
