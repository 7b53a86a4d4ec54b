-- The program over files in memory: what it writes and reports, and its exit status. No device is named.
use Rattle.std.specs.Prelude.{◌≡◌, ◌⊎◌, ℕ, false, List, [], ◌∷◌, ◌++◌, Option, Some, None, Result, Ok, Err, ⊤}
use Rattle.std.specs.Prelude.{bytes_eq, if◌then◌else◌, map, max, string_bytes}
use Rattle.std.specs.Option.{option_map, option_to_list}
use Rattle.std.specs.declared.io.ErrorKind.TheVariants.{NotFound}
use Rattle.normalizer_ucd.specs.declared.error.UcdFile.{UcdFile}
use Rattle.normalizer_command.specs.DataFaults.{name_of, IsDataFault}
use Rattle.normalizer_command.specs.Devices.{Files}
use Rattle.normalizer_command.specs.FileFaults.{is_refusal}
use Rattle.normalizer_command.specs.FileReports.{Report}
use Rattle.normalizer_command.specs.Outcomes.{fault_told, status_of}
use Rattle.normalizer_command.specs.Replies.{IsReply}
use Rattle.normalizer_command.specs.Runs.{IsByData}
use Rattle.normalizer_command.specs.Works.{Work}
use Rattle.normalizer_command.specs.declared.command.Command.{Command}
use Rattle.normalizer_command.specs.declared.fault.Fault.{Fault}
use Rattle.normalizer_command.specs.declared.fault.Fault.TheVariants.{Open}
use Rattle.normalizer_command.specs.declared.memory.NamedFile.{NamedFile}
use Rattle.normalizer_command.specs.declared.memory.Outcome.{Outcome}
use Rattle.normalizer_command.specs.declared.reply.Answer.{Answer}

-- the bytes of the first file of a name, if there is one
abbrev pub bytes_in : List NamedFile → (name : List ℕ) → Option (List ℕ)
bytes_in [] name = None
bytes_in (file ∷ files) name = if bytes_eq file.name.now name then Some file.bytes.now else bytes_in files name

-- files by their names: those that are there can be opened
abbrev pub in_memory : (bytes_of : List ℕ → Option (List ℕ)) → Files
in_memory bytes_of = record {
  bytes_of = bytes_of;
  can_open = λ name. (bytes : List ℕ) × (bytes_of name ≡ Some bytes);
  cannot_open = λ name kind. (bytes_of name ≡ None) × (kind ≡ NotFound);
  unrefused = λ _. ⊤;
  read_refused = λ _. ⊤;
}

-- what is written, what is reported, and the exit status
pub record Effect : Type 0 where
  pub output : List ℕ
  pub reports : List Report
  pub status : ℕ

abbrev pub effect_of : Outcome → Effect
effect_of o = record {
  output = o.output.items;
  reports = map (λ report. (string_bytes report.name, report.fault)) o.reports.items;
  status = o.status;
}

-- what comes of a file, and what is written: its reply; or no such file is there, and nothing is written
abbrev pub IsHandled : Work → (name : List ℕ) → (bytes : Option (List ℕ)) → Result Answer Fault → (output : List ℕ) → Type 0
IsHandled w name None outcome output = (outcome ≡ Err (Open NotFound)) × (output ≡ [])
IsHandled w name (Some bytes) outcome output = (answer : Answer) × (outcome ≡ Ok answer) × IsReply w name bytes answer output

-- what is reported of a file
abbrev pub reports_of : (name : List ℕ) → Result Answer Fault → List Report
reports_of name outcome = option_to_list (option_map (λ fault. (name, fault)) (fault_told outcome))

-- the files of some names, one after another: outputs and reports are joined, and the status is the greatest
abbrev pub AreHandled : (bytes_of : List ℕ → Option (List ℕ)) → Work → (names : List (List ℕ)) → Effect → Type 0
AreHandled bytes_of w [] e = e ≡ record { output = []; reports = []; status = 0 }
AreHandled bytes_of w (name ∷ names) e = (outcome : Result Answer Fault) × (output : List ℕ) × (rest : Effect)
    × IsHandled w name (bytes_of name) outcome output × AreHandled bytes_of w names rest
    × (e ≡ record {
      output = output ++ rest.output;
      reports = reports_of name outcome ++ rest.reports;
      status = max (status_of outcome) rest.status;
    })

-- there are no data, which one report says
pub record LacksDataInMemory (bytes_of : List ℕ → Option (List ℕ)) (command : Command) (path : List ℕ) (e : Effect)
    : Type 0 where
  pub file : Option UcdFile
  pub fault : Fault
  pub why : IsDataFault (in_memory bytes_of) command path file fault
  pub of_data : is_refusal fault ≡ false
  pub effect : e ≡ record { output = []; reports = (name_of path file, fault) ∷ []; status = 2 }

-- what the program makes of files: its command is done with each of them by the data of a path
abbrev pub IsEffectOf : (bytes_of : List ℕ → Option (List ℕ)) → Command → (path : List ℕ) → (names : List (List ℕ)) → Effect
    → Type 0
IsEffectOf bytes_of command path names e =
    IsByData (in_memory bytes_of) command path (λ w. AreHandled bytes_of w names e)
    ⊎ LacksDataInMemory bytes_of command path e
