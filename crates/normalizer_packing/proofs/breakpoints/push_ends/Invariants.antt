use Rattle.std.proofs.Common.{◌≡◌, ◌++◌, flat_map, take}
use Rattle.normalizer_packing.specs.inner.Beside.{ends}
use Rattle.normalizer_packing.proofs.breakpoints.push_ends.Given as goal

-- with the ends of the ranges so far
abbrev pub invariant-loop-range : goal.invariant-loop-range
invariant-loop-range l = l.breakpoints.items ≡ l.initial.breakpoints.items ++ flat_map ends (take l.range-index l.ranges)
