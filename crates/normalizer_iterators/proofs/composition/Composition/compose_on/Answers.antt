use Rattle.std.proofs.Common.{refl}
use Rattle.std.proofs.lemmas.Result.{err_from_is_err_and}
use Rattle.normalizer_iterators.proofs.composing.CompositionLemmas.{ComposesOn-given, ComposesOn-fault}
use Rattle.normalizer_iterators.proofs.composition.Composition.compose_on.Goals as goal

pub returns : goal.returns
returns g c =
    ComposesOn-given g.I.Iterator c.args.starter c.args.self.now _ _ _
    (record { kept = (c.in_ok-composite.ensures.kept, refl); ahead = refl }) c.in_ok-composite.ensures.ok c.in_ok-composite.ensures.ready

pub returns-in_err-composite : goal.returns-in_err-composite
returns-in_err-composite g c =
    let fault = c.in_err-composite.ensures.err in
    let exit = err_from_is_err_and c.from_residual.result c.from_residual.ensures.1 in
    rw exit.1
    (ComposesOn-fault g.I.Iterator c.args.starter c.args.self.now _ _
    (record { kept = (c.in_err-composite.ensures.kept, refl); ahead = refl }) c.in_err-composite.ensures.ended (cc (exit.2, fault.0)) fault.1 fault.2)
