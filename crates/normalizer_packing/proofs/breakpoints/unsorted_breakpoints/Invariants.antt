use Rattle.std.proofs.Common.{◌≡◌, ◌++◌, map, take}
use Rattle.normalizer_packing.proofs.breakpoints.unsorted_breakpoints.Given as goal

-- after those of the entries the seconds of the pairs so far
abbrev pub invariant-loop-pair : goal.invariant-loop-pair
invariant-loop-pair l = l.breakpoints.items ≡ l.initial.breakpoints.items ++ map (λ p. p.0) (take l.pair-index l.pairs)
