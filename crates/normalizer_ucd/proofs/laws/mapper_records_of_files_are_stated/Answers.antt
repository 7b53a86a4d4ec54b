use Rattle.std.proofs.Common.{[]}
use Rattle.normalizer_ucd.proofs.StatedRecords.{statuses_are_stated}
use Rattle.normalizer_ucd.proofs.laws.mapper_records_of_files_are_stated.Goals as goal

pub returns : goal.returns
returns c = record {
  table = λ choice table records h. statuses_are_stated choice [] table records h;
  beside = λ choice exclusions table records h. statuses_are_stated choice exclusions table records h;
}
