use Rattle.std.proofs.Common.{◌≡◌, ℕ, ◌-◌, ◌<◌, ◌≤◌, true, length, get_or}
use Rattle.normalizer_text.specs.Encodings.{trails_in, longest_step}
use Rattle.normalizer_text.proofs.units.last_start.Given as goal

-- the units passed over trail
abbrev pub invariant-loop-start : goal.invariant-loop-start
invariant-loop-start g l =
    let units = g.U.Units.units l.units in
    (length units - longest_step ≤ l.start) × (l.start < length units) × ((k : ℕ) → l.start < k → k < length units → trails_in g.U.Units.encoding (get_or units k 0) ≡ true)

abbrev pub decreases-loop-start : goal.decreases-loop-start
decreases-loop-start g l = l.start
