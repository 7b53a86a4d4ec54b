-- The data of a file of prepared data.
use Rattle.std.specs.Prelude.{◌≡◌, ◌⊎◌, ℕ, List, Some, Ok, IfSome}
use Rattle.std.specs.declared.io.ErrorKind.{ErrorKind}
use Rattle.icu_normalizer.specs.Building.{Builds}
use Rattle.icu_normalizer.specs.RecordValue.{RecordValue, Uts46RecordValue}
use Rattle.icu_normalizer.specs.ByRecords.{packed_form}
use Rattle.icu_normalizer.specs.DataError.{DataError}
use Rattle.icu_normalizer.specs.DataError.TheVariants as data_error
use Rattle.icu_normalizer.specs.HeldForms.{held_for_forms, HeldForForms, RefusesForm, RefusesMapper}
use Rattle.icu_normalizer.specs.Kind.TheVariants.{Mapper}
use Rattle.icu_normalizer.specs.Packed.{Packed}
use Rattle.icu_normalizer.specs.ReadBack.{characters_of}
use Rattle.icu_normalizer.specs.Uts46.{MapperData}
use Rattle.icu_normalizer.specs.declared.any_normalizer.NormalForm.{NormalForm}
use Rattle.normalizer_prepared.specs.Files.{IsFirstFault}
use Rattle.normalizer_prepared.specs.Prepared.{IsFileOf}
use Rattle.normalizer_prepared.specs.declared.fault.PreparedError.{PreparedError}
use Rattle.normalizer_prepared.specs.declared.fault.PreparedError.TheVariants as prepared_error
use Rattle.normalizer_command.specs.declared.command.Command.{Command}
use Rattle.normalizer_command.specs.declared.command.Command.TheVariants as command
use Rattle.normalizer_command.specs.Making.{mapping_of, Making}
use Rattle.normalizer_command.specs.Works.{work_by, OfForm, OfMapper, Work}
use Rattle.normalizer_command.specs.Devices.{Files}
use Rattle.normalizer_command.specs.declared.fault.Fault.{Fault}
use Rattle.normalizer_command.specs.declared.fault.Fault.TheVariants.{Memory, Prepared}
use Rattle.normalizer_command.specs.declared.fault.PreparedFault.TheVariants.{Wrong, Unfit, NoMapper}

-- a normal form by data
abbrev pub making_of : Packed → NormalForm → Making
making_of p form = record { reading = (packed_form p form).reading; form = (packed_form p form).form }

-- what data hold for the mapper
abbrev pub mapper_data_in : Packed → MapperData
mapper_data_in p = (characters_of p Mapper, p.compositions)

-- the work of a command, by data
abbrev pub work_of : Packed → Command → Work
work_of p (command.OfForm task mode form) = OfForm task mode (making_of p form)
work_of p (command.OfMapper task mode) = OfMapper task mode (mapping_of (mapper_data_in p))

-- the command is of the mapper, which has no data of its own: its data are those of the canonical mappings
abbrev pub LacksMapper : Command → Packed → Type 0
LacksMapper (command.OfMapper task mode) p = p.mapper ≡ p.canonical
LacksMapper other p = ⊥

-- what data hold for the forms
abbrev pub held_by : Packed → HeldForForms
held_by p =
    held_for_forms (Some p.canonical) (Some p.tables) (Some p.compatibility) (Some p.supplementary_tables)
    (Some p.compositions)

-- the data that a command needs break a condition, with this error
abbrev pub RefusesWork : Command → Packed → DataError → Type 0
RefusesWork (command.OfForm task mode form) p e = RefusesForm form (held_by p) e
RefusesWork (command.OfMapper task mode) p e = RefusesMapper (Ok (mapper_data_in p)) e

abbrev pub fault_of_prepared : PreparedError → Fault
fault_of_prepared (prepared_error.Wrong fault offset) = Prepared (Wrong fault offset)
fault_of_prepared prepared_error.Memory = Memory

abbrev pub fault_of_data : DataError → Fault
fault_of_data (data_error.Invalid marker condition) = Prepared (Unfit marker condition)
fault_of_data (data_error.FutureExtension marker) = Prepared (Unfit marker 1)
fault_of_data (data_error.Provider marker) = Prepared (Unfit marker 0)
fault_of_data data_error.Memory = Memory

-- why the command isn't done by these data: a condition is broken, or memory ran out; or the mapper has none
abbrev pub IsFaultOfData : Command → Packed → Fault → Type 0
IsFaultOfData command p fault =
    ((e : DataError) × ((e ≡ data_error.Memory) ⊎ RefusesWork command p e) × (fault ≡ fault_of_data e))
    ⊎ (LacksMapper command p × (fault ≡ Prepared NoMapper))

-- why it isn't done by a file: its first fault, or memory ran out; or it is the file of data that aren't used
abbrev pub IsFaultOfPrepared : (prepared : List ℕ) → Command → Fault → Type 0
IsFaultOfPrepared prepared command fault =
    ((e : PreparedError) × IsFirstFault prepared e × (fault ≡ fault_of_prepared e))
    ⊎ ((p : Packed) × IsFileOf prepared p × IsFaultOfData command p fault)

-- the path can be opened, no read of its file was refused, and these are its bytes, if they are known
abbrev pub IsFileAt : Files → (path bytes : List ℕ) → Type 0
IsFileAt f path bytes = f.can_open path × f.unrefused path × IfSome (f.bytes_of path) (λ all. bytes ≡ all)

-- the path can't be opened as a file, so it is that of a directory
abbrev pub IsDirectory : Files → (path : List ℕ) → Type 0
IsDirectory f path = (kind : ErrorKind) × f.cannot_open path kind

-- this is so of the work of a command by the data whose file these bytes are, and so by the records that build them
pub record IsByPrepared (prepared : List ℕ) (command : Command) (Is : Work → Type 0) : Type 0 where
  pub packed : Packed
  pub file : IsFileOf prepared packed
  pub suits : ¬ LacksMapper command packed
  pub is : Is (work_of packed command)
  pub recorded : (records : List RecordValue) (uts46 : List Uts46RecordValue) → Builds records uts46 packed
      → Is (work_by records uts46 command)
