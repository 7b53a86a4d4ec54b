use Rattle.normalizer_calls.proofs.results.OwnedLemmas.{WroteUnlessOwn-kept, WroteUnlessOwn-wrote}
use Rattle.normalizer_calls.proofs.owned.write_unless_own.Goals as goal

pub returns-in_default-clause-wrote : goal.returns-in_default-clause-wrote
returns-in_default-clause-wrote g c =
    WroteUnlessOwn-kept (g.met.N.Forming.suits c.args.normalizer.now) (rw c.in_default.is at c.in_ok-cut.ensures.cut)

pub write_from_cut-requires : goal.write_from_cut-requires
write_from_cut-requires g c = (rw c.in-Some.is at c.in_ok-cut.ensures.cut).1.qualifies

pub returns-in-Ok-clause-wrote : goal.returns-in-Ok-clause-wrote
returns-in-Ok-clause-wrote g c =
    let change = rw c.in-Some.is at c.in_ok-cut.ensures.cut in
    WroteUnlessOwn-wrote (g.met.N.Forming.suits c.args.normalizer.now) change.0 c.in-Ok.ensures
