use Rattle.normalizer_records.proofs.replacing.ReplacedLemmas.{ExpandsTo-expand_all, ExpandsTo-expansion}
use Rattle.normalizer_records.proofs.laws.expansion_is_replacing.Goals as goal

pub returns : goal.returns
returns c = record {
  character = λ records uts46 mappings fixed list. ExpandsTo-expansion records uts46 fixed mappings list;
  text = λ records uts46 mappings fixed. ExpandsTo-expand_all records uts46 fixed mappings;
}
