use Rattle.std.proofs.Common.{arith, ◌∙◌}
use Rattle.normalizer_tables.specs.Table.{code_points}
use Rattle.normalizer_tables.proofs.lists.PlaceTables.{place_in-position}
use Rattle.normalizer_tables.proofs.places.ByCharacter.position.Goals as goal

pub returns : goal.returns
unfolding code_points
returns g c =
    rw (← c.self.view_is) (c.place_in.ensures ∙ place_in-position g.T.HasCharacter.character c.self.inside.items.now c.self.inside.places c.self.invariant c.args.c (omega arith))
