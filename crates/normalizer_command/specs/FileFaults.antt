-- Faults of what the program calls, and when a file fails so.
use Rattle.std.specs.Prelude.{ℕ, Bool, true, false, List, Option, ◌⊎◌}
use Rattle.std.specs.Io.KnownBytes.{IsAtEnd}
use Rattle.std.specs.declared.io.ErrorKind.{ErrorKind}
use Rattle.normalizer_io.specs.Transfer.{IsUnrefused}
use Rattle.normalizer_io.specs.declared.outcome.TransferError.{TransferError}
use Rattle.normalizer_io.specs.declared.outcome.TransferError.TheVariants as transfer
use Rattle.normalizer_streams.specs.Streams.{IsEndless}
use Rattle.normalizer_ucd.specs.declared.error.UcdError.{UcdError}
use Rattle.normalizer_ucd.specs.declared.error.UcdError.TheVariants as ucd
use Rattle.normalizer_command.specs.declared.fault.Fault.{Fault}
use Rattle.normalizer_command.specs.declared.fault.Fault.TheVariants.{Open, Read, Write, Memory, Line}

abbrev pub fault_of_transfer : TransferError → Fault
fault_of_transfer transfer.Read = Read
fault_of_transfer transfer.Write = Write
fault_of_transfer transfer.Memory = Memory

abbrev pub fault_of_file : UcdError → Fault
fault_of_file (ucd.Line fault) = Line fault
fault_of_file ucd.Memory = Memory

-- a read, a write or an allocation failed
abbrev pub is_refusal : Fault → Bool
is_refusal Read = true
is_refusal Write = true
is_refusal Memory = true
is_refusal other = false

-- When a file may fail so: it can't be opened, or a read of it or a write failed, or memory was. That memory was
-- refused can't be stated; `no_other` says what excludes the other reasons then.
abbrev pub IsFileFault : (cannot_open : ErrorKind → Type 0) (read_refused write_refused no_other : Type 0) → Fault
    → Type 0
IsFileFault cannot_open read_refused write_refused no_other (Open kind) = cannot_open kind
IsFileFault cannot_open read_refused write_refused no_other Read = read_refused
IsFileFault cannot_open read_refused write_refused no_other Write = write_refused
IsFileFault cannot_open read_refused write_refused no_other Memory = no_other
IsFileFault cannot_open read_refused write_refused no_other other = ⊥

-- a source was read to its end, or no read of it was refused
abbrev pub IsReadUnrefused : {S : Type 0} → (left : Option (List ℕ)) → (refusal : S → S → Type 0) → S → S → Type 0
IsReadUnrefused left refusal before after = IsAtEnd left ⊎ IsUnrefused refusal before after

-- what is done with an open file may fail so, on the way from one state of the source and the target to another
abbrev pub IsTransferFault : {S W : Type 0} → (left : S → Option (List ℕ)) → (read_refusal : S → S → Type 0)
    → (write_refusal : W → W → Type 0) → S × W → S × W → Fault → Type 0
IsTransferFault left read_refusal write_refusal before after fault =
    IsFileFault (λ _. ⊥) (read_refusal before.0 after.0 ⊎ IsEndless (left before.0)) (write_refusal before.1 after.1)
    (IsReadUnrefused (left after.0) read_refusal before.0 after.0 × IsUnrefused write_refusal before.1 after.1) fault
