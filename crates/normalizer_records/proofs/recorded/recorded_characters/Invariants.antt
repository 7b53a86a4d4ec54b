use Rattle.std.proofs.Common.{◌≡◌, ◌++◌, map, take}
use Rattle.normalizer_records.proofs.recorded.recorded_characters.Given as goal

-- the characters of records, and after them those of the mapper's records so far
abbrev pub invariant-loop-mapped : goal.invariant-loop-mapped
invariant-loop-mapped l = l.characters.items ≡ l.initial.characters.items ++ map (λ r. r.c) (take l.mapped-index l.uts46)
