use Rattle.std.proofs.Common.{◌≡◌, map, take}
use Rattle.normalizer_tables.specs.Characters.{class_of}
use Rattle.normalizer_check.proofs.check.lists.has_fixed_classes.Given as goal

abbrev pub invariant-loop-place : goal.invariant-loop-place
invariant-loop-place l = take l.place l.classes ≡ take l.place (map (class_of l.data) l.list)
