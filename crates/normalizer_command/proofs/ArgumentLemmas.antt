-- What the words hold, by argument.
use Rattle.std.proofs.Common.{◌≡◌, ◌==◌, not, length, List, [], ◌∷◌, Option, Some, None, Result, Ok, Err, Bor, codes, map, true, refl, option_map, unwrap_or, IfOk, IfErr, false, ap, sym, ◌∙◌}
use Rattle.clap.proofs.OnLiterals.{clap_on_literals}
use Rattle.clap.proofs.WalkLemmas.{list_any-map, one_text-rows}
use Rattle.icu_normalizer.specs.declared.any_normalizer.NormalForm.{NormalForm}
use Rattle.normalizer_streams.specs.declared.ill_formed.ErrorMode.{ErrorMode}
use Rattle.normalizer_command.specs.declared.command.Command.TheVariants.{OfForm}
use Rattle.normalizer_command.specs.declared.command.Task.TheVariants.{Write}
use Rattle.clap.specs.Matches.{found_of, one_text}
use Rattle.clap.specs.declared.parser.matches.Found.{Found}
use Rattle.clap.specs.Built.{AddsArg}
use Rattle.clap.specs.Simple.{App, HasMatchesOf, app_of, is_simple, matches_of, with_rule}
use Rattle.clap.specs.declared.builder.arg.Arg.{Arg}
use Rattle.clap.specs.declared.builder.command.Command.{Command}
use Rattle.clap.specs.Takes.{takes}
use Rattle.clap.specs.Values.{kind_of}
use Rattle.clap.specs.Walk.{Row, Rule, Text, first_of, one_of, rows_of, rule_of}
use Rattle.clap.specs.declared.error.kind.ErrorKind.TheVariants.{OutOfMemory}
use Rattle.clap.specs.declared.parser.matches.ArgMatches.{ArgMatches}
use Rattle.clap.specs.declared.error.Error.{Error}
use Rattle.normalizer_command.specs.Arguments.{files_in, goes_in_place, wanted, wanted_in, word_in, AreFlags, IsFlag, Requests}
use Rattle.normalizer_command.specs.declared.arguments.Flags.{Flags}
use Rattle.normalizer_command.specs.declared.arguments.Request.{Request}
use Rattle.normalizer_command.specs.CommandLine.{uninorm}
use Rattle.std.specs.Prelude.{Bool, bytes_eq}
use Rattle.std.specs.List.{list_any}

pub differ : false ≡ true → ⊥
differ e = let e = e in cc

-- a value or another, behind references
pub now_or : {T : Type 0} (found : Option (Bor T)) (other : Bor T) → (unwrap_or found other).now ≡ unwrap_or (option_map (λ x. x.now) found) other.now
now_or (Some x) other = refl
now_or None other = refl

pub list_or : {T : Type 0} (found : Option (Bor (List (Bor T)))) (other : Bor (List (Bor T)))
    → map (λ x. x.now) (unwrap_or found other).now ≡ unwrap_or (option_map (λ xs. map (λ x. x.now) xs.now) found) (map (λ x. x.now) other.now)
list_or (Some x) other = refl
list_or None other = refl

-- files that are named, none as standard input
pub goes_by : (mode : ErrorMode) (form : NormalForm) (names : List (Bor Text)) (has_input : Bool) → (length names == 0) ≡ false
    → has_input ≡ list_any (λ name. bytes_eq name.now (codes "-")) names → not has_input ≡ goes_in_place (OfForm Write mode form, map (λ name. name.now) names)
goes_by mode form [] has_input some is = cc
goes_by mode form (name ∷ names) has_input some is = ap not (is ∙ list_any-map (λ name. bytes_eq name (codes "-")) (λ name. name.now) (name ∷ names))

is_simple_uninorm : is_simple uninorm ≡ true
unfolding clap_on_literals
is_simple_uninorm = refl

-- the matches of the program's arguments
pub rows_are : (a : App) (words : List Text) (r : Result ArgMatches Error) → a ≡ uninorm → IfOk r (HasMatchesOf a words)
    → IfOk r (λ m. rows_of (found_of m) ≡ matches_of uninorm words)
rows_are a words (Ok m) e has = (rw e at has is_simple_uninorm).0
rows_are a words (Err x) e has = tt

-- words that they take are refused only for memory
pub taken_are : (a : App) (words : List Text) (r : Result ArgMatches Error) → a ≡ uninorm
    → IfErr r (λ error. takes a words ≡ true → kind_of error ≡ OutOfMemory)
    → IfErr r (λ error. takes uninorm words ≡ true → kind_of error ≡ OutOfMemory)
taken_are a words (Ok m) e passes = tt
taken_are a words (Err x) e passes = λ taken. passes (ap (λ b. takes b words) e ∙ taken)

-- what a flag says
pub flag_is : (f : Found) (name : Text) (flag : Bool) → (one_text f name ≡ None → flag ≡ false) → (one_text f name ≡ Some (codes "false") → flag ≡ false) → (one_text f name ≡ Some (codes "true") → flag ≡ true)
    → IsFlag (one_of name (rows_of f)) flag
flag_is f name true none other value = ((λ e. differ (sym (none (one_text-rows f name ∙ e)))), (λ e. differ (sym (other (one_text-rows f name ∙ e)))))
flag_is f name false none other value = λ e. differ (value (one_text-rows f name ∙ e))

-- what the parts of the words request is what all of them do
pub requests_ok : {E : Type 0} (rows : List Row) (r : Result Request E) (flags : Flags) → AreFlags rows flags → {word : Text} {after : List Text} {path : Option Text}
    → word ≡ word_in rows → after ≡ files_in rows → path ≡ first_of (codes "data") rows → IfOk r (λ r. wanted_in r ≡ wanted word after path flags) → IfOk r (Requests rows)
requests_ok rows (Ok r) flags are e f g wants = (flags, are, rw (← e, ← f, ← g) wants)
requests_ok rows (Err x) flags are e f g wants = tt

-- an argument is added to a command
pub added : (old : Command) (a : Arg) (new : Command) (before : App) (rule : Rule) → AddsArg old a new → a.global ≡ false → rule_of a ≡ rule → app_of old ≡ before → app_of new ≡ with_rule before rule
added old a new before rule adds local is was = adds.shape local ∙ ap (λ x. with_rule x (rule_of a)) was ∙ ap (with_rule before) is

pub added_ok : {E : Type 0} (old : Command) (a : Arg) (before : App) (rule : Rule) (r : Result Command E) → IfOk r (AddsArg old a) → a.global ≡ false → rule_of a ≡ rule → app_of old ≡ before
    → IfOk r (λ new. app_of new ≡ with_rule before rule)
added_ok old a before rule (Ok new) adds local is was = added old a new before rule adds local is was
added_ok old a before rule (Err e) adds local is was = tt
