use Rattle.std.proofs.Common.{subst, sym}
use Rattle.normalizer_tables.specs.declared.condition.Condition.{Condition}
use Rattle.normalizer_tables.specs.Characters.{Characters}
use Rattle.normalizer_tables.specs.conditions.Loaded.{Loaded}
use Rattle.normalizer_check.specs.EachCharacter.{IsFirstBreaking, IsFirstUncomposable}
use Rattle.normalizer_builder.specs.AtFault.{IsFirstOfKind}
use Rattle.normalizer_builder.proofs.FaultLemmas.{of_each_character}
use Rattle.normalizer_builder.proofs.at_fault.first_of_kind.Goals as goal

pub returns-in-Pairs : goal.returns-in-Pairs
unfolding IsFirstOfKind
returns-in-Pairs c =
    subst (λ (x : Condition). IsFirstOfKind c.args.packed.now c.args.kind x c.first_uncomposable.result) (sym c.in-Pairs.is)
    (subst (λ (s : Characters). IsFirstUncomposable s c.args.packed.now.compositions c.first_uncomposable.result)
    c.characters_of.ensures c.first_uncomposable.ensures)

pub returns-in_default : goal.returns-in_default
returns-in_default c =
    of_each_character c.args.packed.now c.args.kind c.args.condition c.first_breaking.result c.in_default.not-Pairs
    (subst (λ (d : Loaded). IsFirstBreaking d c.args.condition c.first_breaking.result) c.loaded_of.ensures
    c.first_breaking.ensures)
