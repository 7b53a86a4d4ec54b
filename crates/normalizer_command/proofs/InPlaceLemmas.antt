-- Files in place.
use Rattle.std.proofs.Common.{◌≡◌, ℕ, List, Result, Ok, Err, IfErr, subst}
use Rattle.std.specs.Prelude.{IsErrOf}
use Rattle.std.specs.declared.io.ErrorKind.{ErrorKind}
use Rattle.normalizer_command.specs.Devices.{Files}
use Rattle.normalizer_command.specs.InPlace.{MayFailInPlace}
use Rattle.normalizer_command.specs.declared.fault.Fault.{Fault}
use Rattle.normalizer_command.specs.declared.fault.Fault.TheVariants.{Write}

-- none fails by a refused write
pub no-write : {A : Type 0} (f : Files) (refused : ErrorKind → Type 0) (name : List ℕ) (outcome : Result A Fault) → IfErr outcome (MayFailInPlace f refused name) → IsErrOf outcome Write → ⊥
no-write f refused name (Ok a) why is = cc
no-write f refused name (Err fault) why is = let is : fault ≡ Write = cc in subst (MayFailInPlace f refused name) is why
