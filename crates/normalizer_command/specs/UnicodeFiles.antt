-- The data of Unicode's files in a directory.
use Rattle.std.specs.Prelude.{◌≡◌, ℕ, List, [], ◌∷◌, ◌++◌, Option, Some, None, IfSome, IsSomeAnd, Result, Ok}
use Rattle.std.specs.declared.io.ErrorKind.TheVariants.{NotFound}
use Rattle.icu_normalizer.specs.RecordValue.{RecordValue, Uts46RecordValue}
use Rattle.normalizer_ucd.specs.declared.error.LineFault.{LineFault}
use Rattle.normalizer_ucd.specs.declared.error.UcdFile.{UcdFile}
use Rattle.normalizer_ucd.specs.declared.error.UcdFile.TheVariants.{UnicodeData, CompositionExclusions, IdnaMappingTable}
use Rattle.normalizer_ucd.specs.declared.idna_table.Disallowed.TheVariants.{All}
use Rattle.normalizer_ucd.specs.IdnaTable.{uts46_records_beside}
use Rattle.normalizer_ucd.specs.Messages.{name_of_file}
use Rattle.normalizer_ucd.specs.UnicodeData.{records_of}
use Rattle.normalizer_command.specs.Devices.{Files}
use Rattle.normalizer_command.specs.Works.{work_by, Work}
use Rattle.normalizer_command.specs.declared.command.Command.{Command}
use Rattle.normalizer_command.specs.declared.command.Command.TheVariants.{OfForm, OfMapper}
use Rattle.normalizer_command.specs.declared.unicode_files.Purpose.{Purpose}
use Rattle.normalizer_command.specs.declared.unicode_files.Purpose.TheVariants.{Forms, Mapper, Both}

-- what a command needs data for
abbrev pub purpose_of : Command → Purpose
purpose_of (OfForm task mode form) = Forms
purpose_of (OfMapper task mode) = Mapper

-- a file in a directory
abbrev pub path_of : (directory : List ℕ) → UcdFile → List ℕ
path_of directory file = directory ++ (0x2F ∷ name_of_file file)

-- a file of a directory can be opened, and these are its bytes, if they are known
abbrev pub IsFile : Files → (directory : List ℕ) → UcdFile → (bytes : List ℕ) → Type 0
IsFile f directory file bytes =
    f.can_open (path_of directory file) × IfSome (f.bytes_of (path_of directory file)) (λ all. bytes ≡ all)

-- no table is read for forms; for both it is, if there is one
abbrev pub IsTable : Files → (directory : List ℕ) → Purpose → (table : Option (List ℕ)) → Type 0
IsTable f directory Forms table = table ≡ None
IsTable f directory Mapper table = IsSomeAnd table (IsFile f directory IdnaMappingTable)
IsTable f directory Both None = f.cannot_open (path_of directory IdnaMappingTable) NotFound
IsTable f directory Both (Some table) = IsFile f directory IdnaMappingTable table

-- these are the bytes of the files, if they are known
pub record AreFiles (f : Files) (directory : List ℕ) (purpose : Purpose) (unicode_data exclusions : List ℕ)
    (table : Option (List ℕ)) : Type 0 where
  pub is_data : IsFile f directory UnicodeData unicode_data
  pub are_exclusions : IsFile f directory CompositionExclusions exclusions
  pub is_table : IsTable f directory purpose table

-- the mapper's records that a table says, if there is one
abbrev pub mapper_records_of : (exclusions : List ℕ) → (table : Option (List ℕ)) →
    Result (List Uts46RecordValue) LineFault
mapper_records_of exclusions None = Ok []
mapper_records_of exclusions (Some table) = uts46_records_beside exclusions All table

-- the records that the lines of the files say
abbrev pub AreRecorded : (unicode_data exclusions : List ℕ) → (table : Option (List ℕ))
    → List RecordValue → List Uts46RecordValue → Type 0
AreRecorded unicode_data exclusions table records uts46 =
    (records_of unicode_data exclusions ≡ Ok records) × (mapper_records_of exclusions table ≡ Ok uts46)

-- this is so of the work of a command by what the lines of Unicode's files in a directory mean
pub record IsByFiles (f : Files) (command : Command) (directory : List ℕ) (Is : Work → Type 0) : Type 0 where
  pub unicode_data : List ℕ
  pub exclusions : List ℕ
  pub table : Option (List ℕ)
  pub are_files : AreFiles f directory (purpose_of command) unicode_data exclusions table
  pub records : List RecordValue
  pub uts46 : List Uts46RecordValue
  pub recorded : AreRecorded unicode_data exclusions table records uts46
  pub is : Is (work_by records uts46 command)
