use Rattle.std.proofs.Common.{◌≡◌, take}
use Rattle.normalizer_check.proofs.pair_check.results.write.Given as goal

abbrev pub invariant-loop-place : goal.invariant-loop-place
invariant-loop-place l = take l.place l.room ≡ take l.place l.list
