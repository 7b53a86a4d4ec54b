use Rattle.std.specs.List.{AllWithin}
use Rattle.normalizer_tables.specs.conditions.PairConditions.{IsComposablePair}
use Rattle.normalizer_check.proofs.pair_check.have_composable_members.Given as goal

abbrev pub invariant-loop-place : goal.invariant-loop-place
invariant-loop-place l = AllWithin (IsComposablePair l.data) l.compositions 0 l.place
