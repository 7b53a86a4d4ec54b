use Rattle.std.proofs.Common.{◌≡◌, map, not, sym, subst, List}
use Rattle.normalizer_command.specs.Arguments.{goes_in_place}
use Rattle.normalizer_command.specs.declared.command.Command.{Command}
use Rattle.normalizer_command.specs.declared.command.Command.TheVariants.{OfForm}
use Rattle.normalizer_command.specs.declared.command.Task.{Task}
use Rattle.normalizer_command.specs.declared.command.Task.TheVariants.{Write}
use Rattle.normalizer_command.proofs.ArgumentLemmas.{goes_by}
use Rattle.normalizer_command.proofs.arguments.goes_in_place.Goals as goal

pub returns-then-not-is_empty : goal.returns-then-not-is_empty
returns-then-not-is_empty c =
    let it = c.in-OfForm-Write-default-default in
    let write : it.field-0 ≡ Write = rw it.is at it.field-0-is in
    let command : c.args.command ≡ OfForm it.field-0 it.field-1 it.field-2 = it.is in
    let names : List (List _) = map (λ name. name.now) c.args.names.now in
    subst (λ (x : Command). not c.contains.result ≡ goes_in_place (x, names)) (sym command)
    (subst (λ (t : Task). not c.contains.result ≡ goes_in_place (OfForm t it.field-1 it.field-2, names)) (sym write)
    (goes_by it.field-1 it.field-2 c.args.names.now c.contains.result (rw (← c.is_empty.ensures) c.if-not-is_empty.true) c.contains.ensures.value))
