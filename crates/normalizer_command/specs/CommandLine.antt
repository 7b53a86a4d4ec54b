-- The arguments of the program, in the words of `clap`.
use Rattle.std.specs.Prelude.{ℕ, List, codes, Some}
use Rattle.clap.specs.Lexer.{usize_max}
use Rattle.clap.specs.Simple.{App, new_app, new_rule, with_rule}
use Rattle.clap.specs.Walk.{Rule}
use Rattle.clap.specs.declared.builder.action.ArgAction.TheVariants.{Append, SetTrue}

-- a word; then any number of words
abbrev pub word_rule : Rule
word_rule = new_rule (codes "command")

abbrev pub after_rule : Rule
after_rule = record (new_rule (codes "file")) {
  action = Some Append;
  range = Some (record { start_inclusive = 0; end_inclusive = usize_max });
}

-- --data PATH
abbrev pub path_rule : Rule
path_rule = record (new_rule (codes "data")) { long = Some (codes "data") }

-- a flag of this name, and of one letter
abbrev pub flag_rule : (name : List ℕ) → Rule
flag_rule name = record (new_rule name) { long = Some name; action = Some SetTrue }

abbrev pub short_flag_rule : (name : List ℕ) → (letter : ℕ) → Rule
short_flag_rule name letter = record (flag_rule name) { short = Some letter }

-- --strict; --quiet or -q, --name-only or -l, --null or -0, --in-place or -i; and --version or -V
abbrev pub uninorm : App
uninorm = with_rule (with_rule (with_rule (with_rule (with_rule (with_rule (with_rule (with_rule (with_rule (new_app (codes "uninorm"))
    word_rule) after_rule) path_rule) (flag_rule (codes "strict"))) (short_flag_rule (codes "quiet") 113))
    (short_flag_rule (codes "name-only") 108)) (short_flag_rule (codes "null") 48)) (short_flag_rule (codes "in-place") 105))
    (short_flag_rule (codes "version") 86)
