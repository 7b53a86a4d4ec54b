use Rattle.std.proofs.Common.{◌≡◌, ◌++◌, take}
use Rattle.normalizer_packing.proofs.store.append_narrow.Given as goal

-- the members so far were appended
abbrev pub invariant-loop-member : goal.invariant-loop-member
invariant-loop-member l = l.units.items ≡ l.initial.units.items ++ take l.member-index l.list
