use Rattle.std.proofs.Common.{◌≡◌, take, filter_map}
use Rattle.normalizer_records.specs.Meaning.{pair_of_record}
use Rattle.normalizer_records.proofs.pair_list.unsorted_pairs.Given as goal

-- the pairs of the records so far
abbrev pub invariant-loop-entry : goal.invariant-loop-entry
invariant-loop-entry l = l.pairs.items ≡ filter_map pair_of_record (take l.entry-index l.records)
