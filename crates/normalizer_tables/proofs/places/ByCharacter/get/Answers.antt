use Rattle.std.proofs.Common.{◌==◌, sym, ◌∙◌}
use Rattle.normalizer_tables.proofs.lists.PlaceTables.{find_lent, find_without_position}
use Rattle.normalizer_tables.proofs.places.ByCharacter.get.Goals as goal

pub returns-in_err-place : goal.returns-in_err-place
returns-in_err-place g c =
    rw c.from_residual.ensures (sym (find_without_position (λ x. g.T.HasCharacter.character x == c.args.c) c.args.self.now (sym c.position.ensures ∙ c.in_err-place.was)))

pub returns : goal.returns
returns g c =
    let read = c.get.ensures.lookup in
    rw (← c.self.view_is) (find_lent (λ x. g.T.HasCharacter.character x == c.args.c) c.self.inside.items.now c.in_ok-place.place
    (rw c.self.view_is (sym c.position.ensures ∙ c.in_ok-place.was)) c.get.result read.2 read.1)
