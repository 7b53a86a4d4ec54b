-- What becomes of files, one after another.
use Rattle.std.specs.Prelude.{◌≡◌, ◌⊎◌, ◌==◌, ℕ, List, [], ◌∷◌, Option, Some, None, Result, Ok, Err, IsErrOf, OnOk}
use Rattle.std.specs.Prelude.{MatchOption, max, if◌then◌else◌}
use Rattle.normalizer_io.specs.Transfer.{IsUnrefused}
use Rattle.normalizer_command.specs.declared.reply.Answer.{Answer}
use Rattle.normalizer_command.specs.declared.reply.Answer.TheVariants.{Done, No, Ended}
use Rattle.normalizer_streams.specs.declared.ill_formed.Ending.TheVariants.{Whole, Stopped}
use Rattle.normalizer_command.specs.declared.fault.Fault.{Fault}
use Rattle.normalizer_command.specs.declared.fault.Fault.TheVariants.{IllFormed, Replaced, Write}
use Rattle.normalizer_streams.specs.Streams.{IsEndless}
use Rattle.normalizer_command.specs.Devices.{Devices}
use Rattle.normalizer_command.specs.FileFaults.{IsFileFault}
use Rattle.normalizer_command.specs.FileReports.{Report, Tells}
use Rattle.normalizer_command.specs.Works.{Work}
use Rattle.normalizer_command.specs.Written.{IsOutcome}

-- the output, what was reported, and the exit status so far
pub record State (W : Type 0) : Type 0 where
  pub writer : W
  pub told : Option (List Report)
  pub status : ℕ

abbrev pub state : {W : Type 0} → W → Option (List Report) → ℕ → State W
state writer told status = record { writer = writer; told = told; status = status }

-- the exit status after a file: 0, or 1 if it isn't as it is to be or had ill-formed sequences that were replaced, or 2 if
-- it failed or one was fatal
abbrev pub status_of : Result Answer Fault → ℕ
status_of (Ok Done) = 0
status_of (Ok No) = 1
status_of (Ok (Ended (Whole count))) = if count == 0 then 0 else 1
status_of (Ok (Ended (Stopped at))) = 2
status_of (Err fault) = 2

-- what is reported of a file
abbrev pub fault_told : Result Answer Fault → Option Fault
fault_told (Ok Done) = None
fault_told (Ok No) = None
fault_told (Ok (Ended (Whole count))) = if count == 0 then None else Some (Replaced count)
fault_told (Ok (Ended (Stopped at))) = Some (IllFormed at)
fault_told (Err fault) = Some fault

-- why a file may fail. A source of 2^64 - 1 bytes may count as failed. If memory ran out, the file was opened, and no read
-- or write failed
abbrev pub MayFail : {W : Type 0} → Devices W → (name : List ℕ) → W → W → Fault → Type 0
MayFail d name before after =
    IsFileFault (d.files.cannot_open name) (d.files.read_refused name ⊎ IsEndless (d.files.bytes_of name))
    (d.write_refused before after) (d.files.unrefused name × IsUnrefused d.write_refused before after)

-- One file: it is opened, and its reply is written, or a report says why it failed. A report also says what was
-- ill-formed in a form.
pub record IsDone {W : Type 0} (d : Devices W) (w : Work) (name : List ℕ) (s t : State W) (outcome : Result Answer Fault)
    : Type 0 where
  pub opened : OnOk outcome (d.files.can_open name)
  pub is : IsOutcome w name (d.files.bytes_of name) (d.taken s.writer) (d.taken t.writer) (MayFail d name s.writer t.writer)
      (t.writer ≡ s.writer) outcome
  pub told : MatchOption (fault_told outcome) (t.told ≡ s.told) (λ fault. Tells s.told t.told (name, fault))
  pub status : t.status ≡ max s.status (status_of outcome)

-- this is so of each file in turn, and of none after a failed write
unfoldable pub AreEach : {W : Type 0} → (Is : List ℕ → State W → State W → Result Answer Fault → Type 0)
    → (names : List (List ℕ)) → State W → State W → Type 0
AreEach Is [] s t = s ≡ t
AreEach {W} Is (name ∷ names) s t =
    (outcome : Result Answer Fault) × (next : State W) × Is name s next outcome
    × (IsErrOf outcome Write → next ≡ t) × ((IsErrOf outcome Write → ⊥) → AreEach Is names next t)

abbrev pub AreDone : {W : Type 0} → Devices W → Work → (names : List (List ℕ)) → State W → State W → Type 0
AreDone d w names s t = AreEach (IsDone d w) names s t
