use Rattle.std.proofs.Common.{◌≡◌, drop}
use Rattle.normalizer_tables.specs.Characters.{class_of}
use Rattle.normalizer_tables.proofs.lists.OrderedLists.{rises_from}
use Rattle.normalizer_check.proofs.check.lists.is_in_order.Given as goal

abbrev pub invariant-loop-place : goal.invariant-loop-place
invariant-loop-place l = rises_from (class_of l.data) 0 l.list ≡ rises_from (class_of l.data) l.last (drop l.place l.list)
