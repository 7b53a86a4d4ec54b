-- The result of a run of a command.
use Rattle.std.specs.Prelude.{◌≡◌, ℕ, List, Option, Result, Ok, Err, ⊤, IfSome}
use Rattle.std.specs.Io.KnownBytes.{Appends}
use Rattle.normalizer_io.specs.declared.outcome.Answer.{Answer}
use Rattle.normtool_command.specs.declared.ending.ToolFault.{ToolFault}
use Rattle.normtool_command.specs.declared.ending.ToolFault.TheVariants.{Write}
use Rattle.normtool_command.specs.declared.arguments.Command.{Command}
use Rattle.normtool_command.specs.Needs.{Held, IsOver}
use Rattle.normtool_command.specs.Replies.{IsReply}
use Rattle.normtool_command.specs.Tasks.{Work, task_of}
use Rattle.normalizer_io.specs.Transfer.{AppendsFront}

-- the command has this reply to all the bytes of a source, if the source reports them, over data that are held
pub record Replies (command : Command) (held : Held) (left : Option (List ℕ)) (answer : Answer) (output : List ℕ)
    : Type 0 where
  pub work : Work
  pub over : IsOver (task_of command) held work
  pub input : List ℕ
  pub whole : IfSome left (λ bytes. input ≡ bytes)
  pub reply : IsReply work input answer output

-- By what a provider holds, the bytes that were left in the source, and the bytes that the target took before and
-- after: the command's output was written, and its result returned; or a beginning of it, and a write failed; or there
-- is no result.
abbrev pub IsOutcome : Command → Held → (left before after : Option (List ℕ)) → Result Answer ToolFault → Type 0
IsOutcome command held left before after (Ok answer) =
    (output : List ℕ) × Replies command held left answer output × Appends before after output
IsOutcome command held left before after (Err Write) =
    (answer : Answer) × (output : List ℕ) × Replies command held left answer output
    × AppendsFront before after output
IsOutcome command held left before after (Err other) = ⊤
