-- What is wrong with UnicodeData.txt, CompositionExclusions.txt and IdnaMappingTable.txt, and where first.
use Rattle.std.specs.Prelude.{ℕ, ◌+◌, ◌==◌, ◌&&◌, ◌||◌, not, nat_lt, Bool, false, List, [], ◌∷◌, length, find}
use Rattle.std.specs.Prelude.{Option, Some, None, if◌then◌else◌}
use Rattle.std.specs.Option.{is_none, option_and_then, option_map, option_map_or, unwrap_or}
use Rattle.std.specs.Str.{bytes_eq}
use Rattle.std.specs.List.{last_or, list_any}
use Rattle.normalizer_records.specs.RecordValue.{RecordValue}
use Rattle.normalizer_ucd.specs.declared.error.LineFault.{LineFault}
use Rattle.normalizer_ucd.specs.declared.error.Problem.{Problem}
use Rattle.normalizer_ucd.specs.declared.error.Problem.TheVariants as problems
use Rattle.normalizer_ucd.specs.declared.error.UcdFile.{UcdFile}
use Rattle.normalizer_ucd.specs.declared.error.UcdFile.TheVariants as files
use Rattle.normalizer_ucd.specs.FallibleReads.{fault}
use Rattle.normalizer_ucd.specs.Fields.{begins_range, class, code, ends_range, field, first, last, lines, mapped_to}
use Rattle.normalizer_ucd.specs.Fields.{mapping, name, range_name, status}
use Rattle.normalizer_ucd.specs.FileLines.{DataLine, data_lines, is_of_character, maps, stated_records, states_some}
use Rattle.normalizer_ucd.specs.Versions.{find_map, other_version, stated_in}
use Rattle.normalizer_ucd.specs.Wholes.{cut_off}

-- what may be wrong with a line, and whether it is. Of several the first is told.
abbrev pub Findings : Type 0
Findings = List (Problem × Bool)

abbrev pub wrong_at : UcdFile → (DataLine → Findings) → DataLine → Option LineFault
wrong_at name findings l =
    option_map (λ found. fault (record { file = name; line = l.number }) found.0) (find (λ found. found.1) (findings l))

-- the first line with which something is wrong
abbrev pub first_wrong : UcdFile → (DataLine → Findings) → List DataLine → Option LineFault
first_wrong name findings ls = find_map (wrong_at name findings) ls

-- the line doesn't end the range that the line before begins, or ends one that it doesn't begin
abbrev pub breaks_range : Option (List ℕ) → List ℕ → Bool
breaks_range before text = (option_map_or begins_range before false || ends_range text)
    && not (option_map_or (λ first. begins_range first && (ends_range text
    && bytes_eq (range_name (name first)) (range_name (name text)))) before false)

-- a line of UnicodeData.txt has fifteen fields, code points rise, the last line of a range comes right after its first,
-- and a class or a mapping is of one character
abbrev pub data_findings : DataLine → Findings
data_findings l = (problems.MissingField, is_none (field l.text 14))
    ∷ (problems.CodePoint, is_none (code l.text))
    ∷ (problems.Class, is_none (class l.text))
    ∷ (problems.Mapping, is_none (mapping l.text))
    ∷ (problems.Order, nat_lt (unwrap_or (code l.text) 0) (option_map_or (λ t. unwrap_or (code t) 0 + 1) l.before 0))
    ∷ (problems.Range, breaks_range l.before l.text)
    ∷ (problems.NotACharacter, states_some l.text && not (is_of_character l.text))
    ∷ []

-- the last line begins no range
abbrev pub open_at_end : List DataLine → Option LineFault
open_at_end ls = option_and_then (λ l. if begins_range l.text
    then Some (fault (record { file = files.UnicodeData; line = l.number }) problems.Range) else None) (last_or None ls)

-- a line of CompositionExclusions.txt lists a code point, of which there is a canonical mapping
abbrev pub listing_findings : DataLine → Findings
listing_findings l = (problems.CodePoint, is_none (code l.text)) ∷ []

abbrev pub is_mapped : List RecordValue → ℕ → Bool
is_mapped records c = list_any (λ r. (r.c == c) && (not r.compatibility && not (length r.mapping == 0))) records

abbrev pub mapping_findings : List RecordValue → DataLine → Findings
mapping_findings rs l = (problems.Unmapped, option_map_or (λ c. not (is_mapped rs c)) (code l.text) false) ∷ []

-- what is wrong with the two files: one is cut off, they state different versions, a line of the second is wrong or one
-- of the first, a range is open at the end, an excluded character has no canonical mapping
abbrev pub fault_of_files : (unicode_data exclusions : List ℕ) → Option LineFault
fault_of_files unicode_data exclusions = find_map (λ fault. fault) (cut_off files.CompositionExclusions exclusions
    ∷ cut_off files.UnicodeData unicode_data
    ∷ other_version (stated_in (lines exclusions)) files.UnicodeData (stated_in (lines unicode_data))
    ∷ first_wrong files.CompositionExclusions listing_findings (data_lines exclusions)
    ∷ first_wrong files.UnicodeData data_findings (data_lines unicode_data)
    ∷ open_at_end (data_lines unicode_data)
    ∷ first_wrong files.CompositionExclusions (mapping_findings (stated_records unicode_data exclusions))
    (data_lines exclusions)
    ∷ [])

-- the code point after a line, with which the next begins
abbrev pub next_after : Option (List ℕ) → ℕ
next_after before = option_map_or (λ text. unwrap_or (last text) 0 + 1) before 0

-- a line of IdnaMappingTable.txt has a range that begins where that before ends, and mapped characters a mapping
abbrev pub table_findings : DataLine → Findings
table_findings l =
    let start = unwrap_or (first l.text) 0 in
    (problems.CodePoint, is_none (first l.text) || is_none (last l.text))
    ∷ (problems.Order, nat_lt start (next_after l.before) || nat_lt (unwrap_or (last l.text) 0) start)
    ∷ (problems.Gap, nat_lt (next_after l.before) start)
    ∷ (problems.MissingField, is_none (field l.text 1) || (maps (status l.text) && is_none (field l.text 2)))
    ∷ (problems.Status, is_none (status l.text))
    ∷ (problems.Mapping, maps (status l.text) && is_none (mapped_to l.text))
    ∷ []

-- the last line ends at U+10FFFF; without one the first line is wrong
abbrev pub too_short : List DataLine → Option LineFault
too_short ls =
    let number = option_map_or (λ l. l.number) (last_or None ls) 1 in
    if next_after (option_map (λ l. l.text) (last_or None ls)) == 0x110000 then None
    else Some (fault (record { file = files.IdnaMappingTable; line = number }) problems.TooShort)

-- what is wrong with the table: it is cut off, it states another version than the exclusions, a line is wrong, code
-- points are missing at the end
abbrev pub fault_of_table : (exclusions table : List ℕ) → Option LineFault
fault_of_table exclusions table = find_map (λ fault. fault) (cut_off files.IdnaMappingTable table
    ∷ other_version (stated_in (lines exclusions)) files.IdnaMappingTable (stated_in (lines table))
    ∷ first_wrong files.IdnaMappingTable table_findings (data_lines table)
    ∷ too_short (data_lines table)
    ∷ [])
