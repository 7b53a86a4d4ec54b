-- A run over files by the data of a path.
use Rattle.std.specs.Prelude.{◌≡◌, ◌⊎◌, ℕ, List, Option}
use Rattle.std.specs.declared.io.ErrorKind.{ErrorKind}
use Rattle.normalizer_io.specs.Replacing.{Replacement}
use Rattle.normalizer_ucd.specs.declared.error.UcdFile.{UcdFile}
use Rattle.normalizer_command.specs.DataFaults.{name_of, IsDataFault}
use Rattle.normalizer_command.specs.Devices.{Devices, Files}
use Rattle.normalizer_command.specs.FileReports.{Tells}
use Rattle.normalizer_command.specs.InPlace.{AreDoneInPlace}
use Rattle.normalizer_command.specs.Outcomes.{AreDone, State}
use Rattle.normalizer_command.specs.PreparedFiles.{IsByPrepared, IsDirectory, IsFileAt}
use Rattle.normalizer_command.specs.UnicodeFiles.{IsByFiles}
use Rattle.normalizer_command.specs.Works.{Work}
use Rattle.normalizer_command.specs.declared.command.Command.{Command}
use Rattle.normalizer_command.specs.declared.fault.Fault.{Fault}

-- this is so of the work of a command by the data of a path: of a file of prepared data, if it can be opened, and else of
-- Unicode's files in a directory
abbrev pub IsByData : Files → Command → (path : List ℕ) → (Is : Work → Type 0) → Type 0
IsByData f command path Is = ((prepared : List ℕ) × IsFileAt f path prepared × IsByPrepared prepared command Is)
    ⊎ (IsDirectory f path × IsByFiles f command path Is)

-- there are none, which a report says of one of the files; nothing is written; the status is 2
pub record LacksData {W : Type 0} (f : Files) (command : Command) (path : List ℕ) (s t : State W) : Type 0 where
  pub file : Option UcdFile
  pub fault : Fault
  pub why : IsDataFault f command path file fault
  pub told : Tells s.told t.told (name_of path file, fault)
  pub unwritten : t.writer ≡ s.writer
  pub status : t.status ≡ 2

-- the command is done with each file by the data
abbrev pub IsRun : {W : Type 0} → Devices W → Command → (path : List ℕ) → (names : List (List ℕ)) → State W → State W → Type 0
IsRun d command path names s t =
    IsByData d.files command path (λ w. AreDone d w names s t) ⊎ LacksData d.files command path s t

-- the form of the command is put in place of each file that isn't in it
abbrev pub IsRunInPlace : {P : Type 0} → Files → (replaced : P → Option (List Replacement)) → (refused : ErrorKind → Type 0)
    → Command → (path : List ℕ) → (names : List (List ℕ)) → State P → State P → Type 0
IsRunInPlace f replaced refused command path names s t =
    IsByData f command path (λ w. AreDoneInPlace f replaced refused w names s t) ⊎ LacksData f command path s t
