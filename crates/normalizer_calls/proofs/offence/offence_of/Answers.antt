use Rattle.std.proofs.Common.{None, Some}
use Rattle.normalizer_calls.proofs.results.CheckLemmas.{IsLastingOffence-found, boundary_at_cut, short_behind_cut, some_behind_cut, wanted_behind_cut, offence_at_cut, found_at}
use Rattle.normalizer_calls.proofs.offence.offence_of.Goals as goal

pub after-rest-requires : goal.after-rest-requires
after-rest-requires g c =
    let cut = rw c.in-Some.is at c.in_ok-place.ensures.cut in
    boundary_at_cut _ _ _ _ _ cut.1

pub unreachable-requires : goal.unreachable-requires
unreachable-requires g c =
    let cut = rw c.in-Some.is at c.in_ok-place.ensures.cut in
    let none = rw c.after-rest.ensures at c.in_default-first_step.ensures in
    some_behind_cut _ _ _ _ _ cut.1 (g.met.N.Forming.suits c.args.normalizer.now) cut.0 none

pub returns-in_err-wanted-clause-room : goal.returns-in_err-wanted-clause-room
returns-in_err-wanted-clause-room g c = λ short.
    let cut = rw c.in-Some.is at c.in_ok-place.ensures.cut in
    let room = rw c.after-rest.ensures at c.in_err-wanted.ensures.room in
    absurd (cc (room (short_behind_cut _ _ _ _ _ cut.1 _ short)))

pub unreachable-requires-in_default-2 : goal.unreachable-requires-in_default-2
unreachable-requires-in_default-2 g c =
    let cut = rw c.in-Some.is at c.in_ok-place.ensures.cut in
    let none = rw (c.in_default-2.is, c.after-rest.ensures) at c.in_ok-wanted.ensures.first in
    wanted_behind_cut _ _ _ _ _ cut.1 (g.met.N.Forming.suits c.args.normalizer.now) cut.0 none

pub returns-in_default-clause-offence : goal.returns-in_default-clause-offence
returns-in_default-clause-offence g c =
    let own = rw c.in_default.is at c.in_ok-place.ensures.cut in
    IsLastingOffence-found _ _ _ (g.met.N.Forming.suits c.args.normalizer.now) None own

pub returns-clause-offence : goal.returns-clause-offence
returns-clause-offence g c =
    let cut = rw c.in-Some.is at c.in_ok-place.ensures.cut in
    let found = rw c.after-rest.ensures at (found_at _ _ _ _ _ cut.1 _ _ c.in-Some-first_step.ensures) in
    let wanted = rw (c.in-Some-2.is, c.after-rest.ensures) at c.in_ok-wanted.ensures.first in
    let suits = g.met.N.Forming.suits c.args.normalizer.now in
    IsLastingOffence-found _ _ _ suits (Some _) (offence_at_cut _ _ _ _ _ cut.1 suits cut.0 _ _ found wanted)
