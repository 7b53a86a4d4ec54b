use Rattle.std.proofs.Common.{◌≡◌, drop}
use Rattle.normalizer_tables.specs.Entries.{class_in}
use Rattle.normalizer_packing.specs.Spelling.{have_classes}
use Rattle.normalizer_packing.proofs.spelling.have_classes.Given as goal

-- the members so far have their classes
abbrev pub invariant-loop-place : goal.invariant-loop-place
invariant-loop-place l = have_classes (class_in l.entries) (drop l.place l.classes) (drop l.place l.list) ≡ have_classes (class_in l.entries) l.classes l.list
