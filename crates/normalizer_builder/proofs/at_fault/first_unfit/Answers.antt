use Rattle.std.proofs.Common.{None, Some}
use Rattle.normalizer_builder.specs.AtFault.{IsFirstUnfit}
use Rattle.normalizer_builder.specs.Building.{IsSmallest}
use Rattle.normalizer_builder.proofs.NoRefusal.{rising}
use Rattle.normalizer_builder.proofs.OneAnswer.{one_outcome}
use Rattle.normalizer_builder.proofs.at_fault.first_unfit.Goals as goal

pub first_unmet-requires : goal.first_unmet-requires
first_unmet-requires c = rising c.args.records.now c.args.uts46.now c.requires.unrefused

pub first_against-requires : goal.first_against-requires
first_against-requires c = rising c.args.records.now c.args.uts46.now c.requires.unrefused

pub returns : goal.returns
unfolding IsSmallest
returns c = λ marker condition h.
    let built = c.in-Ok.ensures in
    let same = one_outcome c.args.records.now c.args.uts46.now (Some None) (Some (Some h.1.1))
    (c.in-Ok.packed, built.packs, c.in-None.ensures) (h.1.0, h.1.2, h.1.3) in
    absurd (cc)

pub returns-in-Some : goal.returns-in-Some
unfolding IsFirstUnfit
returns-in-Some c = λ marker condition h.
    (c.in-Ok.packed, c.in-Some.demand, c.in-Ok.ensures.packs, c.in-Some.ensures, c.first_against.ensures)
