-- What the words request that the program is started with.
use Rattle.std.specs.Prelude.{◌≡◌, ◌≢◌, ◌||◌, ◌&&◌, not, ℕ, List, [], ◌∷◌, codes, map, Option, Some, None, option_copied, option_map, unwrap_or}
use Rattle.std.specs.Prelude.{Bool, true, false, bytes_eq, if◌then◌else◌}
use Rattle.std.specs.List.{list_any}
use Rattle.std.specs.Str.{str_eq_ignore_ascii_case}
use Rattle.clap.specs.Walk.{Row, all_of, first_of, one_of}
use Rattle.icu_normalizer.specs.declared.any_normalizer.NormalForm.{NormalForm}
use Rattle.icu_normalizer.specs.declared.any_normalizer.NormalForm.TheVariants.{Nfd, Nfc, Nfkd, Nfkc}
use Rattle.normalizer_streams.specs.declared.ill_formed.ErrorMode.{ErrorMode}
use Rattle.normalizer_streams.specs.declared.ill_formed.ErrorMode.TheVariants.{Fatal, Replacement}
use Rattle.normalizer_command.specs.declared.command.Task.TheVariants.{Write, Compare}
use Rattle.normalizer_command.specs.declared.command.MapperTask.TheVariants.{Map, Validate}
use Rattle.normalizer_command.specs.declared.command.Command.{Command}
use Rattle.normalizer_command.specs.declared.command.Command.TheVariants.{OfForm, OfMapper}
use Rattle.normalizer_command.specs.declared.command.LineEnd.TheVariants.{LineFeed, Nul}
use Rattle.normalizer_command.specs.declared.command.Listing.{Listing}
use Rattle.normalizer_command.specs.declared.command.Listing.TheVariants.{Places, Names, Nothing}
use Rattle.normalizer_command.specs.declared.arguments.Flags.{Flags}
use Rattle.normalizer_command.specs.declared.arguments.Request.{Request}
use Rattle.normalizer_command.specs.declared.arguments.Request.TheVariants as request

-- the form that a word names, in any case
abbrev pub form_of : (word : List ℕ) → Option NormalForm
form_of word = if str_eq_ignore_ascii_case word (codes "nfc") then Some Nfc
    else (if str_eq_ignore_ascii_case word (codes "nfd") then Some Nfd
    else (if str_eq_ignore_ascii_case word (codes "nfkc") then Some Nfkc
    else (if str_eq_ignore_ascii_case word (codes "nfkd") then Some Nfkd else None)))

-- ill-formed input is fatal by --strict
abbrev pub mode_of : Flags → ErrorMode
mode_of f = if f.strict then Fatal else Replacement

-- names are listed, with NUL after each by -0; or nothing by -q
abbrev pub names_by : Flags → Listing
names_by f = if f.quiet then Nothing else (if f.null then Names Nul else Names LineFeed)

-- places are, or names by -l; -0 is of names alone
abbrev pub places_by : Flags → Option Listing
places_by f = if f.quiet || f.names then Some (names_by f) else (if f.null then None else Some Places)

-- there is no flag of what is listed
abbrev pub is_plain : Flags → Bool
is_plain f = not (f.quiet || (f.names || f.null))

-- a command over files of these names
abbrev pub Asked : Type 0
Asked = Command × List (List ℕ)

-- FORM NAMES
abbrev pub with_form : Listing → ErrorMode → (words : List (List ℕ)) → Option Asked
with_form l mode [] = None
with_form l mode (first ∷ names) = option_map (λ form. (OfForm (Compare l) mode form, names)) (form_of first)

-- the same, if something may be listed so
abbrev pub compared : Option Listing → ErrorMode → (words : List (List ℕ)) → Option Asked
compared None mode words = None
compared (Some l) mode words = with_form l mode words

abbrev pub validated : Option Listing → ErrorMode → (names : List (List ℕ)) → Option Asked
validated None mode names = None
validated (Some l) mode names = Some (OfMapper (Validate l) mode, names)

abbrev pub written : Option NormalForm → ErrorMode → (names : List (List ℕ)) → Option Asked
written None mode names = None
written (Some form) mode names = Some (OfForm Write mode form, names)

-- A word and those after it request a command: check FORM NAMES, where FORM NAMES, validate NAMES, map NAMES or FORM
-- NAMES, if the flags have a meaning for it.
abbrev pub command_of : (word : List ℕ) (after : List (List ℕ)) → Flags → Option Asked
command_of word after f = if bytes_eq word (codes "check") then with_form (names_by f) (mode_of f) after
    else (if bytes_eq word (codes "where") then compared (places_by f) (mode_of f) after
    else (if bytes_eq word (codes "validate") then validated (places_by f) (mode_of f) after
    else (if is_plain f then (if bytes_eq word (codes "map") then Some (OfMapper Map (mode_of f), after)
    else written (form_of word) (mode_of f) after) else None)))

-- standard input, if no file is named
abbrev pub or_input : List (List ℕ) → List (List ℕ)
or_input [] = codes "-" ∷ []
or_input (name ∷ names) = name ∷ names

-- what the command makes of the files may take their places: it is a form, and they are named, none as standard input
abbrev pub goes_in_place : Asked → Bool
goes_in_place (OfForm Write mode form, []) = false
goes_in_place (OfForm Write mode form, names) = not (list_any (λ name. bytes_eq name (codes "-")) names)
goes_in_place other = false

-- a command over files by data that may be named, in place or not; the versions of the program and of the data; the data as one file; or
-- nothing
pub data Wanted : Type 0 where
  Files : Command → (in_place : Bool) → (path : Option (List ℕ)) → (names : List (List ℕ)) → Wanted
  Version : (path : Option (List ℕ)) → Wanted
  Prepare : (path : Option (List ℕ)) → Wanted
  Unclear : Wanted

abbrev pub asked_by : (path : Option (List ℕ)) → (in_place : Bool) → Option Asked → Wanted
asked_by path in_place None = Unclear
asked_by path in_place (Some asked) = if not in_place || goes_in_place asked
    then Files asked.0 in_place path (or_input asked.1) else Unclear

-- prepare, without names
abbrev pub prepared_by : (path : Option (List ℕ)) → (names : List (List ℕ)) → Flags → Wanted
prepared_by path [] f = if is_plain f && not f.in_place then Prepare path else Unclear
prepared_by path (name ∷ names) f = Unclear

-- what the words request: a first one if it is there, those after it, the path that --data names, and the flags
abbrev pub wanted : (word : List ℕ) (after : List (List ℕ)) (path : Option (List ℕ)) → Flags → Wanted
wanted word after path f = if f.version then Version path
    else (if bytes_eq word (codes "prepare") then prepared_by path after f else asked_by path f.in_place (command_of word after f))

abbrev pub wanted_in : Request → Wanted
wanted_in (request.Files r) = Files r.command r.in_place (option_copied r.path) (map (λ name. name.now) r.names.items)
wanted_in (request.Version path) = Version (option_copied path)
wanted_in (request.Prepare path) = Prepare (option_copied path)
wanted_in (request.Unclear reason) = Unclear

-- what a flag holds is set, or not
abbrev pub IsFlag : Option (List ℕ) → Bool → Type 0
IsFlag flag true = (flag ≢ None) × (flag ≢ Some (codes "false"))
IsFlag flag false = flag ≢ Some (codes "true")

-- the flags, by argument
pub record AreFlags (rows : List Row) (f : Flags) : Type 0 where
  pub version : IsFlag (one_of (codes "version") rows) f.version
  pub strict : IsFlag (one_of (codes "strict") rows) f.strict
  pub quiet : IsFlag (one_of (codes "quiet") rows) f.quiet
  pub names : IsFlag (one_of (codes "name-only") rows) f.names
  pub null : IsFlag (one_of (codes "null") rows) f.null
  pub in_place : IsFlag (one_of (codes "in-place") rows) f.in_place

abbrev pub word_in : List Row → List ℕ
word_in rows = unwrap_or (first_of (codes "command") rows) []

abbrev pub files_in : List Row → List (List ℕ)
files_in rows = unwrap_or (all_of (codes "file") rows) []

-- the words, by argument, request this
abbrev pub Requests : List Row → Request → Type 0
Requests rows r = (f : Flags) × AreFlags rows f
    × (wanted_in r ≡ wanted (word_in rows) (files_in rows) (first_of (codes "data") rows) f)
