use Rattle.normalizer_ucd.proofs.SortedRecords.{records_are_rising}
use Rattle.normalizer_ucd.proofs.laws.records_of_files_are_sorted.Goals as goal

pub returns : goal.returns
returns c = records_are_rising
