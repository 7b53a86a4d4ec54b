use Rattle.normalizer_builder.proofs.SameParts.{one_packing_of_records}
use Rattle.normalizer_builder.proofs.laws.packed_records_are_one.Goals as goal

pub returns : goal.returns
returns c = one_packing_of_records
