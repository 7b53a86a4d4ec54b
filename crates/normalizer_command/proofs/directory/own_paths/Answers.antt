use Rattle.std.proofs.Common.{◌≡◌, [], ◌∷◌}
use Rattle.std.specs.Prelude.{string_bytes}
use Rattle.normalizer_command.specs.DataDirectory.{own_paths}
use Rattle.normalizer_command.proofs.directory.own_paths.Goals as goal

pub returns : goal.returns
returns c =
    let paths : string_bytes c.in_ok-format.field-0 ∷ string_bytes c.in_ok-format-2.field-0 ∷ string_bytes c.in_ok-format-3.field-0 ∷ string_bytes c.in_ok-format-4.field-0 ∷ []
    ≡ own_paths c.args.folder.now = cc (c.in_ok-format.ensures.ok, c.in_ok-format-2.ensures.ok, c.in_ok-format-3.ensures.ok, c.in_ok-format-4.ensures.ok) in
    rw (c.in_ok-push-4.ensures.items, c.in_ok-push-3.ensures.items, c.in_ok-push-2.ensures.items, c.in_ok-push.ensures.items, c.new-own.ensures.items) paths
