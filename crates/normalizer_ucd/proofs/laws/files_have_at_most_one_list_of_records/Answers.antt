use Rattle.normalizer_ucd.proofs.SameRecords.{same_list}
use Rattle.normalizer_ucd.proofs.laws.files_have_at_most_one_list_of_records.Goals as goal

pub returns : goal.returns
returns c = record {
  files = λ unicode_data exclusions records others h k rising also.
      same_list (λ r. r.c) records others rising also (λ r has. (k r).1 ((h r).0 has)) (λ r has. (h r).1 ((k r).0 has));
  table = λ choice table records others h k rising also.
      same_list (λ r. r.c) records others rising also (λ r has. (k r).1 ((h r).0 has)) (λ r has. (h r).1 ((k r).0 has));
}
