use Rattle.std.proofs.Common.{◌≡◌, ◌++◌}
use Rattle.std.specs.List.{flat_map}
use Rattle.normalizer_records.specs.Ranges.{entries_at, entries_of}
use Rattle.normalizer_records.proofs.RangeLemmas.{numbers}
use Rattle.normalizer_records.proofs.ranges.push_records.Given as goal

abbrev pub invariant-loop-code : goal.invariant-loop-code
invariant-loop-code l =
    l.records.items ++ flat_map (entries_at l.range.status) (numbers l.code l.code-end)
    ≡ l.initial.records.items ++ entries_of l.range
