-- Replies that are known before they are written.
use Rattle.std.specs.Prelude.{◌≡◌, ℕ, Bool, List, Option, Result, Ok, Err}
use Rattle.std.specs.Io.KnownBytes.{Appends}
use Rattle.normalizer_io.specs.Transfer.{AppendsFront}
use Rattle.normalizer_io.specs.declared.outcome.TransferError.{TransferError}
use Rattle.normalizer_streams.specs.declared.ill_formed.Ending.{Ending}
use Rattle.normalizer_command.specs.FileFaults.{fault_of_transfer}
use Rattle.normalizer_command.specs.Replies.{validity}
use Rattle.normalizer_command.specs.declared.command.MapperTask.{MapperTask}
use Rattle.normalizer_command.specs.declared.command.MapperTask.TheVariants.{Map, Validate}
use Rattle.normalizer_command.specs.declared.fault.Fault.{Fault}
use Rattle.normalizer_command.specs.declared.fault.Fault.TheVariants.{Write}
use Rattle.normalizer_command.specs.declared.reply.Answer.{Answer}
use Rattle.normalizer_command.specs.declared.reply.Answer.TheVariants.{Ended}
use Rattle.normalizer_command.specs.declared.reply.Reply.{Reply}

-- there is no reply, and nothing is written; or it is written; or a write is refused
abbrev pub IsKnownWritten : Result Reply TransferError → (before after : Option (List ℕ)) → (Refused Unrefused Unwritten : Type 0)
    → Result Answer Fault → Type 0
IsKnownWritten (Err e) before after Refused Unrefused Unwritten outcome =
    (outcome ≡ Err (fault_of_transfer e)) × Unrefused × Unwritten
IsKnownWritten (Ok r) before after Refused Unrefused Unwritten (Ok answer) =
    (answer ≡ r.answer) × Appends before after r.output.items
IsKnownWritten (Ok r) before after Refused Unrefused Unwritten (Err fault) =
    (fault ≡ Write) × AppendsFront before after r.output.items × Refused

-- what comes of a text by its lines, whose reply is empty or not
abbrev pub lines_answered_by : MapperTask → (is_silent : Bool) → Ending → Answer
lines_answered_by Map is_silent end = Ended end
lines_answered_by (Validate l) is_silent end = validity l is_silent end
