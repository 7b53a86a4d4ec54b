use Rattle.std.proofs.Common.{[]}
use Rattle.std.specs.List.{AllWithin}
use Rattle.normalizer_tables.specs.conditions.PairConditions.{HasOrderedLists}
use Rattle.normalizer_check.proofs.pair_check.have_ordered_lists.Given as goal

abbrev pub invariant-loop-place : goal.invariant-loop-place
invariant-loop-place l = AllWithin (HasOrderedLists l.data []) l.compositions 0 l.place
