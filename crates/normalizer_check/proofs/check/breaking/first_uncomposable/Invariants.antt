use Rattle.std.proofs.Common.{All, take}
use Rattle.normalizer_tables.specs.conditions.PairConditions.{IsComposable}
use Rattle.normalizer_check.specs.EachCharacter.{composing_members}
use Rattle.normalizer_check.proofs.check.breaking.first_uncomposable.Given as goal

abbrev pub invariant-loop-place : goal.invariant-loop-place
invariant-loop-place l = All (IsComposable l.data) (composing_members (take l.place l.pairs))
