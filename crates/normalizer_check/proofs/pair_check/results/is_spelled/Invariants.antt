use Rattle.std.proofs.Common.{◌≡◌, take}
use Rattle.normalizer_check.proofs.pair_check.results.is_spelled.Given as goal

abbrev pub invariant-loop-place : goal.invariant-loop-place
invariant-loop-place l = take l.place l.list ≡ take l.place l.characters
