-- What is written of lines, one after another.
use Rattle.std.specs.Prelude.{ℕ, ◌+◌, ◌==◌, Bool, List, [], ◌∷◌, ◌++◌, encode_utf8_all, if◌then◌else◌}
use Rattle.normalizer_command.specs.declared.command.MapperTask.{MapperTask}
use Rattle.normalizer_command.specs.declared.command.MapperTask.TheVariants.{Map, Validate}
use Rattle.icu_normalizer.specs.Mapping.{is_valid_by}
use Rattle.icu_normalizer.specs.Uts46.{MapperData}
use Rattle.normalizer_command.specs.Lines.{invalid_lines, line_feed, lines_of, mapped_lines, told_unless}
use Rattle.normalizer_command.specs.Making.{Mapping, mapping_of}

-- what comes before a line
abbrev pub feed_unless : (is_first : Bool) → List ℕ
feed_unless is_first = if is_first then [] else line_feed ∷ []

-- the number before that of a line after so many others, if the lines of the task have numbers
abbrev pub number_before : MapperTask → ℕ → ℕ
number_before Map n = 0
number_before (Validate l) n = n

-- of the line after so many others
abbrev pub reply_to : MapperTask → Mapping → (name : List ℕ) → ℕ → List ℕ → List ℕ
reply_to Map m name n line = encode_utf8_all (feed_unless (n == 0) ++ m.map line)
reply_to (Validate l) m name n line = told_unless (is_valid_by m.validate line) name (n + 1)

-- of the lines after so many others
abbrev pub replies_to : MapperTask → Mapping → (name : List ℕ) → ℕ → List (List ℕ) → List ℕ
replies_to task m name n [] = []
replies_to task m name n (line ∷ lines) = reply_to task m name n line ++ replies_to task m name (n + 1) lines

-- the lines, each mapped by itself, encoded; or the numbers of those that aren't valid, after so many others
abbrev pub reply_after : MapperTask → MapperData → (name : List ℕ) → (lines : ℕ) → (text : List ℕ)
    → List ℕ
reply_after Map h name n text = mapped_lines (mapping_of h) (lines_of text)
reply_after (Validate l) h name n text = invalid_lines (mapping_of h) name (n + 1) (lines_of text)
