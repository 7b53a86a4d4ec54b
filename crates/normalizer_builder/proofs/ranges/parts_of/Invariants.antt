use Rattle.std.proofs.Common.{flat_map, take}
use Rattle.normalizer_records.specs.Ranges.{entries_of}
use Rattle.normalizer_builder.specs.inner.Ranges.{IsSplit}
use Rattle.normalizer_builder.proofs.ranges.parts_of.Given as goal

-- the ranges so far are split
abbrev pub invariant-loop-range : goal.invariant-loop-range
invariant-loop-range l =
    IsSplit l.records (flat_map entries_of (take l.range-index l.ranges)) l.others.items l.disallowed.items l.end
