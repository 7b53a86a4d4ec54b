use Rattle.normalizer_ucd.proofs.StatedRecords.{records_are_stated}
use Rattle.normalizer_ucd.proofs.laws.records_of_files_are_stated.Goals as goal

pub returns : goal.returns
returns c = records_are_stated
