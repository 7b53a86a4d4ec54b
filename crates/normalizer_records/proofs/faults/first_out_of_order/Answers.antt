use Rattle.std.proofs.Common.{rules}
use Rattle.normalizer_records.specs.AtFault.{first_out_of_order}
use Rattle.normalizer_records.proofs.faults.first_out_of_order.Goals as goal

pub returns : goal.returns
unfolding first_out_of_order
returns c = search rules
