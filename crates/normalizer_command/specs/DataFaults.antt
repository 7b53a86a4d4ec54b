-- Why there are no data.
use Rattle.std.specs.Prelude.{◌≡◌, ◌≢◌, ◌⊎◌, ℕ, List, [], Option, Some, None, Err, ⊤, unwrap_or}
use Rattle.std.specs.Option.{option_and_then}
use Rattle.icu_normalizer.specs.AtFault.{IsFirstAtFault}
use Rattle.icu_normalizer.specs.BuildError.TheVariants as errors
use Rattle.icu_normalizer.specs.Building.{IsSmallest}
use Rattle.icu_normalizer.specs.RecordAtFault.{RecordAtFault}
use Rattle.icu_normalizer.specs.RecordValue.{RecordValue, Uts46RecordValue}
use Rattle.normalizer_ucd.specs.declared.error.Place.{Place}
use Rattle.normalizer_ucd.specs.declared.error.UcdFile.{UcdFile}
use Rattle.normalizer_ucd.specs.declared.error.UcdFile.TheVariants.{UnicodeData, IdnaMappingTable}
use Rattle.normalizer_ucd.specs.RecordPlaces.{place_of_record}
use Rattle.normalizer_ucd.specs.UnicodeData.{records_of}
use Rattle.normalizer_command.specs.Devices.{Files}
use Rattle.normalizer_command.specs.FileFaults.{IsFileFault}
use Rattle.normalizer_command.specs.PreparedFiles.{IsDirectory, IsFileAt, IsFaultOfPrepared}
use Rattle.normalizer_command.specs.UnicodeFiles.{mapper_records_of, path_of, purpose_of, AreFiles, AreRecorded}
use Rattle.normalizer_command.specs.declared.command.Command.{Command}
use Rattle.normalizer_command.specs.declared.fault.Fault.{Fault}
use Rattle.normalizer_command.specs.declared.fault.Fault.TheVariants.{Memory, Line, Records}
use Rattle.normalizer_command.specs.declared.fault.RecordsFault.{RecordsFault}
use Rattle.normalizer_command.specs.declared.unicode_files.Purpose.{Purpose}
use Rattle.normalizer_command.specs.declared.unicode_files.Purpose.TheVariants.{Forms}

-- the records aren't built because of the error; this is the first record at fault, if a single one is, and its place
abbrev pub IsRecordsFault : (place_of : RecordAtFault → Option Place) → List RecordValue → List Uts46RecordValue
    → RecordsFault → Type 0
IsRecordsFault place_of records uts46 f = (f.error ≢ errors.Memory) × IsSmallest records uts46 f.error
    × IsFirstAtFault records uts46 f.error f.at_fault × (f.place ≡ option_and_then place_of f.at_fault)

-- the file that states the record at fault; UnicodeData.txt if no single one is
abbrev pub file_of : Option Place → UcdFile
file_of (Some place) = place.file
file_of None = UnicodeData

-- why records aren't built, by where lines state them
abbrev pub IsFaultOfRecords : (place_of : RecordAtFault → Option Place) → List RecordValue → List Uts46RecordValue
    → UcdFile → Fault → Type 0
IsFaultOfRecords place_of records uts46 file (Records f) =
    (file ≡ file_of f.place) × IsRecordsFault place_of records uts46 f
IsFaultOfRecords place_of records uts46 file Memory = ⊤
IsFaultOfRecords place_of records uts46 file fault = ⊥

-- why the bytes of the files make no data, and which of the files is named
abbrev pub IsFaultOf : (unicode_data exclusions : List ℕ) → (table : Option (List ℕ)) → UcdFile → Fault → Type 0
IsFaultOf unicode_data exclusions table file (Line fault) = (file ≡ fault.place.file)
    × ((records_of unicode_data exclusions ≡ Err fault) ⊎ (mapper_records_of exclusions table ≡ Err fault))
IsFaultOf unicode_data exclusions table file (Records f) = (file ≡ file_of f.place) × ((records : List RecordValue)
    × (uts46 : List Uts46RecordValue) × AreRecorded unicode_data exclusions table records uts46
    × IsRecordsFault (λ r. place_of_record unicode_data (unwrap_or table []) r) records uts46 f)
IsFaultOf unicode_data exclusions table file Memory = ⊤
IsFaultOf unicode_data exclusions table file other = ⊥

-- the file is needed: forms need no table
abbrev pub NeedsFile : Purpose → UcdFile → Type 0
NeedsFile Forms IdnaMappingTable = ⊥
NeedsFile purpose file = ⊤

-- why a file of a directory can't be read, and is needed
abbrev pub IsUnread : Files → (directory : List ℕ) → UcdFile → Fault → Type 0
IsUnread f directory file fault =
    IsFileFault (f.cannot_open (path_of directory file)) (f.read_refused (path_of directory file)) ⊥ ⊤ fault

abbrev pub IsReadFault : Files → (directory : List ℕ) → Purpose → UcdFile → Fault → Type 0
IsReadFault f directory purpose file fault = NeedsFile purpose file × IsUnread f directory file fault

-- why there are no data: this file of the directory can't be read, or the bytes of the files make none
abbrev pub IsFilesFault : Files → (directory : List ℕ) → Purpose → UcdFile → Fault → Type 0
IsFilesFault f directory purpose file fault = IsReadFault f directory purpose file fault
    ⊎ ((unicode_data : List ℕ) × (exclusions : List ℕ) × (table : Option (List ℕ))
    × AreFiles f directory purpose unicode_data exclusions table × IsFaultOf unicode_data exclusions table file fault)

-- why the file of a path that can be opened holds none for a command: a read failed, or memory ran out; or its bytes are at
-- fault
abbrev pub IsPathFault : Files → (path : List ℕ) → Command → Fault → Type 0
IsPathFault f path command fault = f.can_open path
    × (IsFileFault (λ _. ⊥) (f.read_refused path) ⊥ (f.unrefused path) fault
    ⊎ ((prepared : List ℕ) × IsFileAt f path prepared × IsFaultOfPrepared prepared command fault))

-- why there are none for a command: by the file of a path, or by those of a directory
abbrev pub IsDataFault : Files → Command → (path : List ℕ) → Option UcdFile → Fault → Type 0
IsDataFault f command path None fault = IsPathFault f path command fault
IsDataFault f command path (Some file) fault = IsDirectory f path × IsFilesFault f path (purpose_of command) file fault

-- the name of a path, or of a file in its directory
abbrev pub name_of : (path : List ℕ) → Option UcdFile → List ℕ
name_of path None = path
name_of path (Some file) = path_of path file
