use Rattle.std.proofs.Common.{ap, ◌++◌, ◌∙◌}
use Rattle.normalizer_text.proofs.inputs.InputBoundaryLemmas.{boundary_of_front}
use Rattle.normalizer_calls.proofs.results.OwnedLemmas.{written_from_cut}
use Rattle.normalizer_calls.proofs.owned.write_from_cut.Goals as goal

pub before-requires : goal.before-requires
before-requires g c = (boundary_of_front _ _ _ c.requires.within c.requires.well_formed).boundary

pub after-requires : goal.after-requires
after-requires g c = (boundary_of_front _ _ _ c.requires.within c.requires.well_formed).boundary

pub returns : goal.returns
returns g c =
    let room = rw c.in_ok-make_room.was at c.make_room.ensures in
    let took = rw c.in_ok-write_piece.was at c.write_piece.ensures in
    written_from_cut g.O.Output.text_taken c.requires _ _ _ _ c.before-2.ensures c.after.ensures
    (took.written.appends ∙ ap (λ l. l ++ g.U.Units.units c.before-2.result) room) c.write_changed.ensures.text.written
