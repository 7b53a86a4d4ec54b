use Rattle.normalizer_ucd.proofs.SameRecords.{files_same, tables_same}
use Rattle.normalizer_ucd.proofs.laws.layout_makes_no_difference.Goals as goal

pub returns : goal.returns
returns c = record { files = files_same; table = tables_same }
