-- How faults of the library are reported.
use Rattle.icu_normalizer.specs.DataError.{DataError}
use Rattle.icu_normalizer.specs.DataError.TheVariants as error
use Rattle.icu_normalizer.specs.BuildError.{BuildError}
use Rattle.icu_normalizer.specs.BuildError.TheVariants as build_error
use Rattle.normalizer_io.specs.declared.outcome.TransferError.{TransferError}
use Rattle.normalizer_io.specs.declared.outcome.TransferError.TheVariants as transfer
use Rattle.normtool_command.specs.declared.ending.ToolFault.{ToolFault}
use Rattle.normtool_command.specs.declared.ending.ToolFault.TheVariants.{Read, Write, Memory, Data}

-- a failed allocation, or data that can't be used
abbrev pub fault_of : DataError → ToolFault
fault_of error.Memory = Memory
fault_of e = Data

-- a failed allocation, or records that build no data
abbrev pub fault_of_build : BuildError → ToolFault
fault_of_build build_error.Memory = Memory
fault_of_build e = Data

-- why bytes were not read or written
abbrev pub fault_of_transfer : TransferError → ToolFault
fault_of_transfer transfer.Read = Read
fault_of_transfer transfer.Write = Write
fault_of_transfer transfer.Memory = Memory
