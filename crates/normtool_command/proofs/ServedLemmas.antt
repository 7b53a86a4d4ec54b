-- What serves a task is what is held for it, and so its reply is the one over what is held.
use Rattle.std.proofs.Common.{◌≡◌, ℕ, List, [], Option, IfSome, Result, Ok, Err, subst}
use Rattle.std.specs.Result.{IsOkAnd}
use Rattle.icu_normalizer.specs.Form.TheVariants.{Decomposing, Composing}
use Rattle.icu_normalizer.specs.Acceptance.{AcceptsHeld, SuitsDecomposing}
use Rattle.icu_normalizer.specs.ComposingAcceptance.{SuitsComposing, with_pairs}
use Rattle.icu_normalizer.specs.Forms.{MadeForm, form_by}
use Rattle.icu_normalizer.specs.DataMarkerInfo.{DataMarkerInfo}
use Rattle.icu_normalizer.specs.HeldForms.{HeldForForms, IsMadeOf}
use Rattle.icu_normalizer.specs.declared.any_normalizer.NormalForm.{NormalForm}
use Rattle.icu_normalizer.specs.declared.any_normalizer.NormalForm.TheVariants.{Nfd, Nfc, Nfkd, Nfkc}
use Rattle.normalizer_io.specs.declared.outcome.Answer.{Answer}
use Rattle.normtool_command.specs.declared.arguments.Command.{Command}
use Rattle.normtool_command.specs.Needs.{Held, IsFormOver, IsOver, IsServed}
use Rattle.normtool_command.specs.Outcome.{Replies}
use Rattle.normtool_command.specs.Replies.{IsReply}
use Rattle.normtool_command.specs.Tasks.{Task, Work, OfForm, OfMapper, task_of}

accepted-held : {H : Type 0} (Suits : H → Type 0) (r : Result H DataMarkerInfo) (h : H) (P : H → Type 0) → AcceptsHeld Suits r h → P h → IsOkAnd r P
accepted-held Suits (Ok held) h P accepted p = subst P accepted.0 p
accepted-held Suits (Err missing) h P accepted p = absurd accepted

made-over : (form : NormalForm) (h : HeldForForms) (m : MadeForm) → IsMadeOf form h m → IsFormOver form h m
made-over Nfd h m made = accepted-held SuitsDecomposing h.canonical made.0 (λ s. m ≡ form_by s [] Decomposing) made.1 made.2
made-over Nfc h m made =
    accepted-held SuitsComposing (with_pairs h.canonical h.pairs) made.0 (λ s. m ≡ form_by s.0 s.1 Composing) made.1 made.2
made-over Nfkd h m made = accepted-held SuitsDecomposing h.compatibility made.0 (λ s. m ≡ form_by s [] Decomposing) made.1 made.2
made-over Nfkc h m made =
    accepted-held SuitsComposing (with_pairs h.compatibility h.pairs) made.0 (λ s. m ≡ form_by s.0 s.1 Composing) made.1 made.2

served-over : (task : Task) (h : Held) (work : Work) → IsServed task h work → IsOver task h work
served-over (OfForm work_by form) h work served = (served.0, made-over form h.forms served.0 served.1, served.2)
served-over (OfMapper work_by) h work served =
    accepted-held SuitsComposing h.mapper served.0 (λ m. work ≡ work_by m) served.1 served.2

pub served-replies : (command : Command) (h : Held) (left : Option (List ℕ)) (work : Work) (input output : List ℕ) (answer : Answer)
    → IsServed (task_of command) h work → IfSome left (λ bytes. input ≡ bytes) → IsReply work input answer output → Replies command h left answer output
served-replies command h left work input output answer served whole reply =
    record { work = work; over = served-over (task_of command) h work served; input = input; whole = whole; reply = reply }
