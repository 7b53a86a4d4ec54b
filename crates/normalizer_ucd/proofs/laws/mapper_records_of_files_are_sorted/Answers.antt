use Rattle.std.proofs.Common.{[]}
use Rattle.normalizer_ucd.proofs.SortedMapperRecords.{mapper_records_are_rising}
use Rattle.normalizer_ucd.proofs.laws.mapper_records_of_files_are_sorted.Goals as goal

pub returns : goal.returns
returns c = record {
  table = λ choice table records h. mapper_records_are_rising [] table choice records h;
  beside = mapper_records_are_rising;
}
