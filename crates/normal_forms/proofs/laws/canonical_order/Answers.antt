use Rattle.normal_forms.proofs.ordering.SortedRuns.{in_order_iff}
use Rattle.normal_forms.proofs.laws.canonical_order.Goals as goal

pub returns : goal.returns
returns c = in_order_iff
