use Rattle.std.specs.List.{AllWithin}
use Rattle.normalizer_tables.specs.conditions.CharacterConditions.{ReadsToItself}
use Rattle.normalizer_check.proofs.check.numbers.reads_in_full.Given as goal

abbrev pub invariant-loop-place : goal.invariant-loop-place
invariant-loop-place l = AllWithin (ReadsToItself l.data) l.read.list 0 l.place
