use Rattle.std.proofs.Common.{◌≡◌, ◌+◌, ◌-◌, ◌≤◌, ℕ, List, length, drop}
use Rattle.normalizer_text.specs.Scans.{leading_below}
use Rattle.normalizer_text.proofs.scan.end_of_run.Given as goal

-- the units passed over are below the bound
abbrev ArePassed : List ℕ → ℕ → ℕ → ℕ → Type 0
ArePassed units bound from end =
    (end ≤ length units) × (end + leading_below bound (drop end units) ≡ from + leading_below bound (drop from units))

abbrev pub invariant-loop-end : goal.invariant-loop-end
invariant-loop-end g l = ArePassed (g.L.Lanes.units l.units) l.bound l.position l.end

abbrev pub decreases-loop-end : goal.decreases-loop-end
decreases-loop-end g l = length (g.L.Lanes.units l.units) - l.end

abbrev pub invariant-loop-end-2 : goal.invariant-loop-end-2
invariant-loop-end-2 g l = ArePassed (g.L.Lanes.units l.units) l.bound l.position l.end

abbrev pub decreases-loop-end-2 : goal.decreases-loop-end-2
decreases-loop-end-2 g l = length (g.L.Lanes.units l.units) - l.end
