-- How the program ends.
use Rattle.std.specs.Prelude.{◌≡◌, ℕ, List, [], codes, Result, Ok, Err}
use Rattle.normalizer_io.specs.declared.outcome.Answer.{Answer}
use Rattle.normalizer_io.specs.declared.outcome.Answer.TheVariants.{Done, No}
use Rattle.normtool_command.specs.declared.ending.ToolFault.{ToolFault}
use Rattle.normtool_command.specs.declared.ending.ToolFault.TheVariants.{Read, Write, Memory, Data}

-- the exit status
abbrev pub status_of : Result Answer ToolFault → ℕ
status_of (Ok Done) = 0
status_of (Ok No) = 1
status_of (Err fault) = 2

-- the line for standard error, without its line feed
abbrev pub line_of : Result Answer ToolFault → List ℕ
line_of (Ok answer) = []
line_of (Err Read) = codes "normtool: read"
line_of (Err Write) = codes "normtool: write"
line_of (Err Memory) = codes "normtool: memory"
line_of (Err Data) = codes "normtool: data"

-- the exit status and the line, without its line feed, after this outcome
abbrev pub EndsWith : Result Answer ToolFault → ℕ → List ℕ → Type 0
EndsWith outcome status line = (status ≡ status_of outcome) × (line ≡ line_of outcome)

-- the exit status and the line, without its line feed, if the words name no command
abbrev pub IsUsage : ℕ → List ℕ → Type 0
IsUsage status line = (status ≡ 2) × (line ≡ codes "normtool: usage: normtool RECORDS COMMAND")
