use Rattle.std.proofs.Common.{◌≡◌, take}
use Rattle.std.specs.List.{flat_map}
use Rattle.normalizer_records.specs.Ranges.{entries_of}
use Rattle.normalizer_records.proofs.ranges.records_of_ranges.Given as goal

abbrev pub invariant-loop-range : goal.invariant-loop-range
invariant-loop-range l = l.records.items ≡ flat_map entries_of (take l.range-index l.ranges)
