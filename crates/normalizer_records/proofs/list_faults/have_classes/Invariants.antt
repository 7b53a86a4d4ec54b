use Rattle.std.proofs.Common.{◌≡◌, take, map}
use Rattle.normalizer_records.specs.Meaning.{class_of}
use Rattle.normalizer_records.proofs.list_faults.have_classes.Given as goal

abbrev pub invariant-loop-place : goal.invariant-loop-place
invariant-loop-place l = take l.place l.classes ≡ take l.place (map (class_of l.records) l.list)
