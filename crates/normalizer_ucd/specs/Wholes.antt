-- Which files are whole. Unicode ends CompositionExclusions.txt by the line "# EOF", and UnicodeData.txt by its line
-- for U+10FFFD. Its IdnaMappingTable.txt has no such line: its ranges are all code points.
use Rattle.std.specs.Prelude.{ℕ, ◌==◌, ◌&&◌, ◌||◌, nat_eq, not, Bool, true, false, List, [], ◌∷◌, length, codes}
use Rattle.std.specs.Prelude.{Option, Some, None, if◌then◌else◌}
use Rattle.std.specs.Option.{option_map_or}
use Rattle.std.specs.List.{after_last, ends_with}
use Rattle.std.specs.Str.{bytes_eq}
use Rattle.normalizer_ucd.specs.declared.error.LineFault.{LineFault}
use Rattle.normalizer_ucd.specs.declared.error.Problem.TheVariants.{CutOff, NoEndMark}
use Rattle.normalizer_ucd.specs.declared.error.UcdFile.{UcdFile}
use Rattle.normalizer_ucd.specs.declared.error.UcdFile.TheVariants.{UnicodeData, CompositionExclusions}
use Rattle.normalizer_ucd.specs.declared.error.UcdFile.TheVariants.{IdnaMappingTable}
use Rattle.normalizer_ucd.specs.FallibleReads.{fault}
use Rattle.normalizer_ucd.specs.Fields.{code, last_mark, lines, name, trim_end}

-- a line feed ends the last line; an empty file has none
abbrev pub ends_in_line_feed : List ℕ → Bool
ends_in_line_feed file = (length file == 0) || ends_with nat_eq file (0x0A ∷ [])

-- the last line with any text
abbrev pub last_line : List ℕ → List ℕ
last_line file = after_last (λ b. b == 0x0A) (trim_end file)

-- and its number
abbrev pub last_number : List ℕ → ℕ
last_number file = length (lines (trim_end file))

abbrev pub is_end_mark : List ℕ → Bool
is_end_mark line = bytes_eq line (codes "# EOF")

-- the line closes the range that ends at U+10FFFD
abbrev pub closes_last_range : List ℕ → Bool
closes_last_range line = option_map_or (λ n. n == 0x10FFFD) (code line) false && ends_with nat_eq (name line) last_mark

-- a file may end with this line; a table's end is seen by its ranges
abbrev pub may_end : UcdFile → List ℕ → Bool
may_end UnicodeData line = is_end_mark line || closes_last_range line
may_end CompositionExclusions line = is_end_mark line
may_end IdnaMappingTable line = true

-- a file that doesn't end so is cut off
abbrev pub cut_off : UcdFile → List ℕ → Option LineFault
cut_off name file =
    if not (ends_in_line_feed file)
    then Some (fault (record { file = name; line = length (lines file) }) CutOff)
    else if may_end name (last_line file) then None
    else Some (fault (record { file = name; line = last_number file }) NoEndMark)
