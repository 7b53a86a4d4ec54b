use Rattle.std.proofs.Common.{inr}
use Rattle.normalizer_command.proofs.DataLemmas.{fault-of-path}
use Rattle.normalizer_command.proofs.data.worker_at.Goals as goal

pub returns-in_err-by_prepared-in-Some-clause-fault : goal.returns-in_err-by_prepared-in-Some-clause-fault
returns-in_err-by_prepared-in-Some-clause-fault g c =
    let at = rw c.in-Some.is at c.in_ok-prepared.ensures.bytes in
    fault-of-path (g.I.Inputs.files c.args.inputs.now) c.args.command c.args.path.now c.from_residual-in_err-by_prepared-in-Some.result _ c.from_residual-in_err-by_prepared-in-Some.ensures.1
    (at.0, inr (c.in-Some.prepared.items, at, rw c.deref.ensures.value at c.in_err-by_prepared-in-Some.ensures.fault))
