-- A run of a command, from a source to a target.
use Rattle.std.specs.Prelude.{◌≡◌, ◌≢◌, ℕ, List, Option, Result, IfErr, IsErrOf}
use Rattle.normalizer_io.specs.declared.outcome.Answer.{Answer}
use Rattle.normtool_command.specs.declared.arguments.Command.{Command}
use Rattle.normtool_command.specs.declared.arguments.RecordSet.{RecordSet}
use Rattle.normtool_command.specs.declared.ending.ToolFault.{ToolFault}
use Rattle.normtool_command.specs.declared.ending.ToolFault.TheVariants.{Read, Write, Data}
use Rattle.normtool_command.specs.Arguments.{AskForNothing, AsksFor}
use Rattle.normtool_command.specs.Endings.{EndsWith, IsUsage}
use Rattle.normtool_command.specs.SetOutcome.{IsOutcomeOver}

-- the bytes that are left in a source and those that a target took, if they are reported, and what a refusal does
pub record Devices (R W : Type 0) : Type 1 where
  pub left : R → Option (List ℕ)
  pub read_refused : R → R → Type 0
  pub taken : W → Option (List ℕ)
  pub write_refused : W → W → Type 0

abbrev pub devices : {R W : Type 0} → (R → Option (List ℕ)) → (R → R → Type 0) → (W → Option (List ℕ))
    → (W → W → Type 0) → Devices R W
devices left read_refused taken write_refused =
    record { left = left; read_refused = read_refused; taken = taken; write_refused = write_refused }

-- A source and a target before and after a run with this result. Its outcome; which device refused; nothing is written
-- if it fails, but by a failed write; nothing is read if the data are why.
pub record IsRun {R W : Type 0} (d : Devices R W)
    (IsOutcome : (left before after : Option (List ℕ)) → Result Answer ToolFault → Type 0)
    (s t : R × W) (result : Result Answer ToolFault) : Type 0 where
  pub outcome : IsOutcome (d.left s.0) (d.taken s.1) (d.taken t.1) result
  pub read : IsErrOf result Read → d.read_refused s.0 t.0
  pub write : IsErrOf result Write → d.write_refused s.1 t.1
  pub unwritten : IfErr result (λ fault. fault ≢ Write → t.1 ≡ s.1)
  pub unread : IsErrOf result Data → t.0 ≡ s.0

-- The program with these words, an exit status and a line for standard error: the usage line, and the devices as they
-- were; or a run of the command that the words name.
pub record IsProgram {R W : Type 0} (d : Devices R W) (words : List (List ℕ)) (s t : R × W) (status : ℕ)
    (line : List ℕ) : Type 0 where
  pub usage : AskForNothing words → IsUsage status line × (t ≡ s)
  pub run : (records : RecordSet) (command : Command) → AsksFor words records command →
      (outcome : Result Answer ToolFault) × EndsWith outcome status line
      × IsRun d (IsOutcomeOver records command) s t outcome
