-- Why the data of a path failed.
use Rattle.std.proofs.Common.{◌≡◌, List, ℕ, None, Result, Ok, Err, IfErr, subst, sym}
use Rattle.std.specs.Prelude.{IsErrAnd}
use Rattle.normalizer_command.specs.DataFaults.{IsDataFault, IsPathFault}
use Rattle.normalizer_command.specs.Devices.{Files}
use Rattle.normalizer_command.specs.declared.command.Command.{Command}
use Rattle.normalizer_command.specs.declared.data.DataFault.{DataFault}
use Rattle.normalizer_command.specs.declared.fault.Fault.{Fault}

-- its file is at fault
pub fault-of-path : {A : Type 0} (f : Files) (command : Command) (path : List ℕ) (r : Result A DataFault) (why : Fault) → IsErrAnd r (λ e. e ≡ record { file = None; fault = why })
    → IsPathFault f path command why → IfErr r (λ e. IsDataFault f command path e.file e.fault)
fault-of-path f command path (Ok a) why is fails = tt
fault-of-path f command path (Err e) why is fails = subst (λ (e : DataFault). IsDataFault f command path e.file e.fault) (sym is) fails
