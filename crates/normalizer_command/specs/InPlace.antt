-- What becomes of files in place, one after another: each whole file stays as it is, or a new one takes its place.
use Rattle.std.specs.Prelude.{◌≡◌, ◌⊎◌, ℕ, Bool, true, false, List, Option, Result, IfOk, IfErr, MatchBool, MatchOption, OnErr, OnOk, max}
use Rattle.std.specs.declared.io.ErrorKind.{ErrorKind}
use Rattle.normalizer_io.specs.Replacing.{Adds, Replacement}
use Rattle.normalizer_streams.specs.Streams.{IsEndless}
use Rattle.normalizer_streams.specs.declared.ill_formed.Ending.TheVariants.{Whole}
use Rattle.normalizer_command.specs.Devices.{Files}
use Rattle.normalizer_command.specs.FileFaults.{IsFileFault}
use Rattle.normalizer_command.specs.FileReports.{Tells}
use Rattle.normalizer_command.specs.Outcomes.{fault_told, status_of, AreEach, State}
use Rattle.normalizer_command.specs.Works.{OfForm, OfMapper, Work}
use Rattle.normalizer_command.specs.Written.{Replies}
use Rattle.normalizer_command.specs.declared.command.Listing.TheVariants.{Nothing}
use Rattle.normalizer_command.specs.declared.command.Task.TheVariants.{Compare}
use Rattle.normalizer_command.specs.declared.fault.Fault.{Fault}
use Rattle.normalizer_command.specs.declared.fault.Fault.TheVariants as fault
use Rattle.normalizer_command.specs.declared.reply.Answer.{Answer}
use Rattle.normalizer_command.specs.declared.reply.Answer.TheVariants.{Done, Ended}

abbrev pub is_done : Answer → Bool
is_done Done = true
is_done other = false

-- all of the text was written
abbrev pub is_whole : Answer → Bool
is_whole (Ended (Whole count)) = true
is_whole other = false

-- whether the bytes of a file, if they are known, are in the form already, as `check` replies; mapped lines never are
abbrev pub IsInForm : Work → (name : List ℕ) → (bytes : Option (List ℕ)) → (in_form : Bool) → Type 0
IsInForm (OfForm task mode m) name bytes in_form = (answer : Answer) × (output : List ℕ)
    × Replies (OfForm (Compare Nothing) mode m) name bytes answer output × (in_form ≡ is_done answer)
IsInForm (OfMapper task mode m) name bytes in_form = in_form ≡ false

-- What is replaced of a file: nothing if it is in the form. Else the reply to all of it is written to a new file, which
-- takes its name if the text didn't end at an ill-formed sequence.
abbrev pub IsAnsweredInPlace : Work → (name : List ℕ) → (bytes : Option (List ℕ)) → (before after : Option (List Replacement))
    → Answer → Type 0
IsAnsweredInPlace w name bytes before after answer =
    (IsInForm w name bytes true × (answer ≡ Done) × (after ≡ before))
    ⊎ (IsInForm w name bytes false × ((output : List ℕ) × Replies w name bytes answer output
    × MatchBool (is_whole answer) (Adds before after (name, output)) (after ≡ before)))

-- why a file may fail; or for this reason no new one takes its place
abbrev pub MayFailInPlace : Files → (refused : ErrorKind → Type 0) → (name : List ℕ) → Fault → Type 0
MayFailInPlace f refused name (fault.InPlace kind) = refused kind
MayFailInPlace f refused name other = IsFileFault (f.cannot_open name)
    (f.read_refused name ⊎ IsEndless (f.bytes_of name)) ⊥ (f.unrefused name) other

-- a refused write is of a new file, and so a reason that it doesn't take the place
abbrev pub fault_in_place : ErrorKind → Fault → Fault
fault_in_place kind fault.Write = fault.InPlace kind
fault_in_place kind other = other

-- a call of what replaces files was refused so, or a write to a new one was refused
abbrev pub IsRefused : {P N : Type 0} → (refused : P → ErrorKind → Type 0) → (write_refused : N → N → Type 0) → ErrorKind
    → Type 0
IsRefused {P} {N} refused write_refused kind =
    ((at : P) × refused at kind) ⊎ ((before : N) × (after : N) × write_refused before after)

-- One file: by the files, the replacements, and why one may be refused. A report says why it failed, and what was
-- ill-formed in it. If it fails, it stays as it is.
pub record IsDoneInPlace {P : Type 0} (f : Files) (replaced : P → Option (List Replacement)) (refused : ErrorKind → Type 0)
    (w : Work) (name : List ℕ) (s t : State P) (outcome : Result Answer Fault) : Type 0 where
  pub opened : OnOk outcome (f.can_open name)
  pub done : IfOk outcome (IsAnsweredInPlace w name (f.bytes_of name) (replaced s.writer) (replaced t.writer))
  pub kept : OnErr outcome (replaced t.writer ≡ replaced s.writer)
  pub why : IfErr outcome (MayFailInPlace f refused name)
  pub told : MatchOption (fault_told outcome) (t.told ≡ s.told) (λ fault. Tells s.told t.told (name, fault))
  pub status : t.status ≡ max s.status (status_of outcome)

abbrev pub AreDoneInPlace : {P : Type 0} → Files → (replaced : P → Option (List Replacement)) → (refused : ErrorKind → Type 0)
    → Work → (names : List (List ℕ)) → State P → State P → Type 0
AreDoneInPlace f replaced refused w names s t = AreEach (IsDoneInPlace f replaced refused w) names s t
