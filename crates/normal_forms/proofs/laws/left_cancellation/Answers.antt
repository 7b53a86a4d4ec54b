use Rattle.normal_forms.proofs.ordering.OrderLemmas.{order-append_cancel}
use Rattle.normal_forms.proofs.laws.left_cancellation.Goals as goal

pub returns : goal.returns
returns c = order-append_cancel
