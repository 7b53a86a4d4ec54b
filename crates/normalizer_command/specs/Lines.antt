-- The lines of a text: each mapped by itself, or validated.
use Rattle.std.specs.Prelude.{ℕ, ◌+◌, ◌==◌, Bool, List, [], ◌∷◌, ◌++◌, map, codes, decimal, encode_utf8_all, if◌then◌else◌}
use Rattle.std.specs.List.{join_with_byte, slice_split}
use Rattle.icu_normalizer.specs.Mapping.{is_valid_by}
use Rattle.normalizer_command.specs.Making.{Mapping}

abbrev pub line_feed : ℕ
line_feed = 0x0A

-- what is between line feeds: one line more than there are line feeds
abbrev pub lines_of : List ℕ → List (List ℕ)
lines_of text = slice_split (λ c. c == line_feed) text

-- the lines, each mapped by itself, with line feeds between them, in UTF-8
abbrev pub mapped_lines : Mapping → List (List ℕ) → List ℕ
mapped_lines m lines = encode_utf8_all (join_with_byte line_feed (map m.map lines))

-- NAME:LINE: invalid
abbrev pub invalid_line : (name : List ℕ) → (number : ℕ) → List ℕ
invalid_line name number = name ++ (codes ":" ++ (decimal number ++ (codes ": invalid" ++ (line_feed ∷ []))))

abbrev pub told_unless : (valid : Bool) → (name : List ℕ) → (number : ℕ) → List ℕ
told_unless valid name number = if valid then [] else invalid_line name number

-- such a line for each of the lines that isn't valid; the first has this number
abbrev pub invalid_lines : Mapping → (name : List ℕ) → (number : ℕ) → List (List ℕ) → List ℕ
invalid_lines m name number [] = []
invalid_lines m name number (line ∷ lines) =
    told_unless (is_valid_by m.validate line) name number ++ invalid_lines m name (number + 1) lines
