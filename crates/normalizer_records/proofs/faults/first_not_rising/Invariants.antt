use Rattle.std.proofs.Common.{◌≡◌, ◌-◌, drop, map}
use Rattle.normalizer_records.specs.AtFault.{first_not_rising}
use Rattle.normalizer_records.proofs.faults.first_not_rising.Given as goal

abbrev pub invariant-loop-place : goal.invariant-loop-place
invariant-loop-place g l =
    first_not_rising (drop (l.place - 1) (map g.T.HasCharacter.character l.items)) ≡ first_not_rising (map g.T.HasCharacter.character l.items)
