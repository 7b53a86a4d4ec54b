-- What is written of the data of a path.
use Rattle.std.specs.Prelude.{◌≡◌, ◌⊎◌, ℕ, List, Option, Some, None, Ok}
use Rattle.std.specs.Option.{option_map}
use Rattle.std.specs.Prelude.{codes, decimal, unwrap_or, ◌∷◌, ◌++◌, [], ◌==◌, if◌then◌else◌}
use Rattle.std.specs.Io.KnownBytes.{Appends}
use Rattle.icu_normalizer.specs.Building.{Builds}
use Rattle.icu_normalizer.specs.Packed.{Packed}
use Rattle.icu_normalizer.specs.RecordValue.{RecordValue, Uts46RecordValue}
use Rattle.normalizer_io.specs.Transfer.{AppendsFront}
use Rattle.normalizer_prepared.specs.Files.{held_in, holding, IsFirstFault}
use Rattle.normalizer_prepared.specs.declared.fault.PreparedError.{PreparedError}
use Rattle.normalizer_prepared.specs.declared.reading.PreparedData.{PreparedData}
use Rattle.normalizer_ucd.specs.Versions.{stated_version}
use Rattle.normalizer_ucd.specs.declared.error.UcdFile.{UcdFile}
use Rattle.normalizer_ucd.specs.declared.error.UcdFile.TheVariants.{CompositionExclusions}
use Rattle.normalizer_command.specs.DataFaults.{name_of, IsFilesFault, IsUnread}
use Rattle.normalizer_command.specs.Devices.{Devices, Files}
use Rattle.normalizer_command.specs.FileFaults.{IsFileFault}
use Rattle.normalizer_command.specs.FileReports.{Tells}
use Rattle.normalizer_command.specs.Outcomes.{State}
use Rattle.normalizer_command.specs.PreparedFiles.{fault_of_prepared, IsDirectory, IsFileAt}
use Rattle.normalizer_command.specs.UnicodeFiles.{AreFiles, AreRecorded, IsFile}
use Rattle.normalizer_command.specs.declared.fault.Fault.{Fault}
use Rattle.normalizer_command.specs.declared.fault.Fault.TheVariants.{Write}
use Rattle.normalizer_command.specs.declared.unicode_files.Purpose.TheVariants.{Both}

-- the version of Unicode that exclusions state, or 0.0.0
abbrev pub version_of : (exclusions : List ℕ) → ℕ × ℕ × ℕ
version_of exclusions = unwrap_or (option_map (λ v. (v.major, v.minor, v.update)) (stated_version exclusions)) (0, 0, 0)

-- all that is made of data is written
pub record IsAllWritten {W : Type 0} (d : Devices W) (Is : List ℕ → Type 0) (s t : State W) : Type 0 where
  pub bytes : List ℕ
  pub is : Is bytes
  pub written : Appends (d.taken s.writer) (d.taken t.writer) bytes
  pub untold : t.told ≡ s.told
  pub status : t.status ≡ 0

-- a write was refused, which a report says
pub record IsPartWritten {W : Type 0} (d : Devices W) (path : List ℕ) (Is : List ℕ → Type 0) (s t : State W) : Type 0 where
  pub bytes : List ℕ
  pub is : Is bytes
  pub written : AppendsFront (d.taken s.writer) (d.taken t.writer) bytes
  pub refused : d.write_refused s.writer t.writer
  pub told : Tells s.told t.told (path, Write)
  pub status : t.status ≡ 2

-- nothing is made of data, which a report says of one of the files
pub record IsNoneWritten {W : Type 0} (d : Devices W) (path : List ℕ) (Fails : Option UcdFile → Fault → Type 0)
    (s t : State W) : Type 0 where
  pub file : Option UcdFile
  pub fault : Fault
  pub why : Fails file fault
  pub told : Tells s.told t.told (name_of path file, fault)
  pub unwritten : t.writer ≡ s.writer
  pub status : t.status ≡ 2

abbrev pub WritesMade : {W : Type 0} → Devices W → (path : List ℕ) → (Is : List ℕ → Type 0)
    → (Fails : Option UcdFile → Fault → Type 0) → State W → State W → Type 0
WritesMade d path Is Fails s t =
    IsAllWritten d Is s t ⊎ (IsPartWritten d path Is s t ⊎ IsNoneWritten d path Fails s t)

-- ---- versions

-- the data of a path state this version of Unicode, or 0.0.0: a file of prepared data holds it, and of a directory the
-- exclusions do
abbrev pub States : Files → (path : List ℕ) → ℕ × ℕ × ℕ → Type 0
States f path version =
    ((prepared : List ℕ) × (held : PreparedData) × IsFileAt f path prepared × (held_in prepared ≡ Ok held)
    × (version ≡ held.version))
    ⊎ (IsDirectory f path × ((exclusions : List ℕ) × IsFile f path CompositionExclusions exclusions
    × (version ≡ version_of exclusions)))

-- the version of the program, and on a line of its own that of Unicode
abbrev pub unicode_text : ℕ × ℕ × ℕ → List ℕ
unicode_text v = if v.0 == 0 then codes "Unicode of a version that the data don't state"
    else codes "Unicode " ++ (decimal v.0 ++ (codes "." ++ (decimal v.1 ++ (codes "." ++ decimal v.2))))

abbrev pub version_text : ℕ × ℕ × ℕ → List ℕ
version_text v = codes "uninorm 1.0.0" ++ (0x0A ∷ (unicode_text v ++ (0x0A ∷ [])))

abbrev pub IsVersionText : Files → (path bytes : List ℕ) → Type 0
IsVersionText f path bytes = (version : ℕ × ℕ × ℕ) × States f path version × (bytes ≡ version_text version)

-- why the file of prepared data of a path can't be read, or a file of a directory
abbrev pub IsVersionFault : Files → (path : List ℕ) → Option UcdFile → Fault → Type 0
IsVersionFault f path None fault = f.can_open path
    × (IsFileFault (λ _. ⊥) (f.read_refused path) ⊥ (f.unrefused path) fault
    ⊎ ((prepared : List ℕ) × IsFileAt f path prepared
    × ((e : PreparedError) × IsFirstFault prepared e × (fault ≡ fault_of_prepared e))))
IsVersionFault f path (Some file) fault = IsDirectory f path × IsUnread f path file fault

abbrev pub IsVersionRun : {W : Type 0} → Devices W → (path : List ℕ) → State W → State W → Type 0
IsVersionRun d path s t = WritesMade d path (IsVersionText d.files path) (IsVersionFault d.files path) s t

-- ---- prepared data

-- the file of the data that are built of Unicode's files in a directory, with those of its table, if there is one
pub record IsPrepared (f : Files) (directory bytes : List ℕ) : Type 0 where
  pub unicode_data : List ℕ
  pub exclusions : List ℕ
  pub table : Option (List ℕ)
  pub are_files : AreFiles f directory Both unicode_data exclusions table
  pub records : List RecordValue
  pub uts46 : List Uts46RecordValue
  pub recorded : AreRecorded unicode_data exclusions table records uts46
  pub packed : Packed
  pub builds : Builds records uts46 packed
  pub held : held_in bytes ≡ Ok (holding packed (version_of exclusions))

abbrev pub IsPrepareFault : Files → (path : List ℕ) → Option UcdFile → Fault → Type 0
IsPrepareFault f path None fault = ⊥
IsPrepareFault f path (Some file) fault = IsFilesFault f path Both file fault

abbrev pub IsPrepareRun : {W : Type 0} → Devices W → (path : List ℕ) → State W → State W → Type 0
IsPrepareRun d path s t = WritesMade d path (IsPrepared d.files path) (IsPrepareFault d.files path) s t
