-- The numbers by which C knows how a call ended.
use Rattle.std.specs.Prelude.{◌≡◌, ℕ, ⊤, Result, Ok, Err}
use Rattle.icu_normalizer.specs.DataError.{DataError}
use Rattle.icu_normalizer.specs.DataError.TheVariants as data_error
use Rattle.normalizer_prepared.specs.declared.fault.PreparedError.{PreparedError}
use Rattle.normalizer_prepared.specs.declared.fault.PreparedError.TheVariants as prepared_error
use Rattle.normalizer_ucd.specs.declared.error.UcdError.{UcdError}
use Rattle.normalizer_ucd.specs.declared.error.UcdError.TheVariants as ucd
use Rattle.normalizer_handles.specs.declared.fault.Fault.{Fault}
use Rattle.normalizer_handles.specs.declared.fault.Fault.TheVariants.{
  BufferTooSmall,
  Memory,
  UnknownForm,
  NotOpen,
  Line,
  Records,
  NoMapper,
  Prepared,
  Unfit,
}

abbrev pub number_of : Fault → ℕ
number_of BufferTooSmall = 1
number_of Memory = 2
number_of UnknownForm = 3
number_of NotOpen = 4
number_of (Line fault) = 5
number_of (Records error) = 6
number_of NoMapper = 7
number_of (Prepared fault offset) = 10
number_of (Unfit condition) = 10

-- 0, or the number of the fault
abbrev pub status_of : Result ⊤ Fault → ℕ
status_of (Ok done) = 0
status_of (Err fault) = number_of fault

-- the number is the status of an outcome of this kind
abbrev pub IsStatus : ℕ → (Result ⊤ Fault → Type 0) → Type 0
IsStatus number Is = (outcome : Result ⊤ Fault) × (number ≡ status_of outcome) × Is outcome

-- what a line of a file is refused as
abbrev pub fault_of_file : UcdError → Fault
fault_of_file (ucd.Line fault) = Line fault
fault_of_file ucd.Memory = Memory

-- what a file of prepared data is refused as
abbrev pub fault_of_prepared : PreparedError → Fault
fault_of_prepared (prepared_error.Wrong fault offset) = Prepared fault offset
fault_of_prepared prepared_error.Memory = Memory

-- what its data are refused as: by the written condition that they break (too many items break the first)
abbrev pub fault_of_data : DataError → Fault
fault_of_data (data_error.Invalid marker condition) = Unfit condition
fault_of_data (data_error.FutureExtension marker) = Unfit 1
fault_of_data (data_error.Provider marker) = Unfit 0
fault_of_data data_error.Memory = Memory
