-- The data that a command needs, and what it does by them.
use Rattle.std.specs.Prelude.{◌≡◌, [], Result, Err, ⊤}
use Rattle.std.specs.Result.{IsOkAnd}
use Rattle.icu_normalizer.specs.Form.TheVariants.{Decomposing, Composing}
use Rattle.icu_normalizer.specs.DataError.{DataError}
use Rattle.icu_normalizer.specs.Acceptance.{AcceptsHeld}
use Rattle.icu_normalizer.specs.ComposingAcceptance.{SuitsComposing, with_pairs}
use Rattle.icu_normalizer.specs.Forms.{MadeForm, form_by}
use Rattle.icu_normalizer.specs.Uts46.{MapperData}
use Rattle.icu_normalizer.specs.HeldForms.{HeldForForms, HeldForMapper, IsMadeOf, RefusesForm, RefusesMapper}
use Rattle.icu_normalizer.specs.declared.any_normalizer.NormalForm.{NormalForm}
use Rattle.icu_normalizer.specs.declared.any_normalizer.NormalForm.TheVariants.{Nfd, Nfc, Nfkd, Nfkc}
use Rattle.normalizer_io.specs.declared.outcome.Answer.{Answer}
use Rattle.normtool_command.specs.declared.arguments.Command.{Command}
use Rattle.normtool_command.specs.declared.ending.ToolFault.{ToolFault}
use Rattle.normtool_command.specs.declared.ending.ToolFault.TheVariants.{Read, Memory, Data}
use Rattle.normtool_command.specs.Tasks.{Task, Work, OfForm, OfMapper, task_of}

-- what is held for the commands
pub record Held : Type 0 where
  pub forms : HeldForForms
  pub mapper : HeldForMapper

abbrev pub held : HeldForForms → HeldForMapper → Held
held forms mapper = record { forms = forms; mapper = mapper }

-- the data that the form needs are held, and this is the form by them
abbrev pub IsFormOver : NormalForm → HeldForForms → MadeForm → Type 0
IsFormOver Nfd h m = IsOkAnd h.canonical (λ s. m ≡ form_by s [] Decomposing)
IsFormOver Nfc h m = IsOkAnd (with_pairs h.canonical h.pairs) (λ s. m ≡ form_by s.0 s.1 Composing)
IsFormOver Nfkd h m = IsOkAnd h.compatibility (λ s. m ≡ form_by s [] Decomposing)
IsFormOver Nfkc h m = IsOkAnd (with_pairs h.compatibility h.pairs) (λ s. m ≡ form_by s.0 s.1 Composing)

-- the data that the task needs are held, and this is the task over them
abbrev pub IsOver : Task → Held → Work → Type 0
IsOver (OfForm work_by form) h work = (m : MadeForm) × IsFormOver form h.forms m × (work ≡ work_by m)
IsOver (OfMapper work_by) h work = IsOkAnd h.mapper (λ m. work ≡ work_by m)

-- they also meet their conditions
abbrev pub IsServed : Task → Held → Work → Type 0
IsServed (OfForm work_by form) h work =
    (m : MadeForm) × IsMadeOf form h.forms m × (work ≡ work_by m)
IsServed (OfMapper work_by) h work =
    (m : MapperData) × AcceptsHeld SuitsComposing h.mapper m × (work ≡ work_by m)

-- data that the task needs are not held, or they break a condition, with this error
abbrev pub Refuses : Task → Held → DataError → Type 0
Refuses (OfForm work_by form) h e = RefusesForm form h.forms e
Refuses (OfMapper work_by) h e = RefusesMapper h.mapper e

-- the same with any error
abbrev pub LacksData : Task → Held → Type 0
LacksData task h = (e : DataError) × Refuses task h e

-- if there is a reply, the data that the command needs are held and meet their conditions; if data are why there is
-- none, they don't
abbrev pub AreNeedsMet : Command → Held → Result Answer ToolFault → Type 0
AreNeedsMet command h (Err Data) = LacksData (task_of command) h
AreNeedsMet command h (Err Read) = ⊤
AreNeedsMet command h (Err Memory) = ⊤
AreNeedsMet command h result = (work : Work) × IsServed (task_of command) h work
