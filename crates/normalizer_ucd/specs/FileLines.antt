-- The lines of a file and what they state of characters: in UnicodeData.txt and CompositionExclusions.txt (Unicode
-- Standard Annex #44, sections 4.2.3 and 5.7.3) and IdnaMappingTable.txt (Unicode Technical Standard #46, section 5).
use Rattle.std.specs.Prelude.{◌≡◌, ◌↔◌, ℕ, ◌+◌, ◌-◌, ◌==◌, ◌&&◌, ◌||◌, not, nat_lt, Bool, true, false, List, [], ◌∷◌}
use Rattle.std.specs.Prelude.{length, Contains, IsSomeAnd, Option, Some, None, if◌then◌else◌}
use Rattle.std.specs.Option.{option_map, option_map_or, unwrap_or}
use Rattle.std.specs.List.{filter_map, list_any}
use Rattle.normalizer_records.specs.RecordValue.{RecordValue, Status, MapsTo, IsIgnored, IsDisallowed, Uts46RecordValue}
use Rattle.normalizer_records.specs.Ranges.{Uts46RangeValue, entries_of}
use Rattle.normalizer_ucd.specs.declared.idna_table.Disallowed.{Disallowed}
use Rattle.normalizer_ucd.specs.declared.idna_table.Disallowed.TheVariants as choices
use Rattle.normalizer_ucd.specs.declared.idna_table.StatusName.{StatusName}
use Rattle.normalizer_ucd.specs.declared.idna_table.StatusName.TheVariants as names
use Rattle.normalizer_ucd.specs.Fields.{begins_range, class, code, data_of, ends_range, field, first, has_data}
use Rattle.normalizer_ucd.specs.Fields.{is_scalar_value, is_tagged, last, lines, mapped_to, mapping, status}

-- a line with data: its number, its text without the comment, and the text of the line with data before it
pub record DataLine : Type 0 where
  pub number : ℕ
  pub text : List ℕ
  pub before : Option (List ℕ)

-- those of lines the first of which has the number n, after a line with data
abbrev pub data_lines_from : ℕ → Option (List ℕ) → List (List ℕ) → List DataLine
data_lines_from n before [] = []
data_lines_from n before (line ∷ parts) =
    if has_data line then record { number = n; text = data_of line; before = before }
    ∷ data_lines_from (n + 1) (Some (data_of line)) parts
    else data_lines_from (n + 1) before parts

abbrev pub data_lines : List ℕ → List DataLine
data_lines file = data_lines_from 1 None (lines file)

-- no class above 0 and no mapping
abbrev pub is_blank : ℕ → List ℕ → Bool
is_blank class mapping = (class == 0) && (length mapping == 0)

abbrev pub states_some : List ℕ → Bool
states_some text = not (is_blank (unwrap_or (class text) 0) (unwrap_or (mapping text) []))

abbrev pub is_of_character : List ℕ → Bool
is_of_character text = not (begins_range text || ends_range text) && is_scalar_value (unwrap_or (code text) 0)

-- the code points that lines of CompositionExclusions.txt list
abbrev pub listed : (exclusions : List DataLine) → List ℕ
listed exclusions = filter_map (λ l. code l.text) exclusions

-- the record that a line states, if it states some of one character; one that is listed is excluded from composition
abbrev pub record_by : (listed : List ℕ) → List ℕ → Option RecordValue
record_by listed text = if states_some text && is_of_character text then Some (record {
  c = unwrap_or (code text) 0;
  class = unwrap_or (class text) 0;
  mapping = unwrap_or (mapping text) [];
  compatibility = option_map_or is_tagged (field text 5) false;
  excluded = list_any (λ n. n == unwrap_or (code text) 0) listed;
}) else None

-- the records that lines of the first file state, in the order of the lines
abbrev pub stated_records : (unicode_data exclusions : List ℕ) → List RecordValue
stated_records unicode_data exclusions =
    filter_map (λ l. record_by (listed (data_lines exclusions)) l.text) (data_lines unicode_data)

-- the records are those that lines of the first file state, and no others
abbrev pub AreStated : (unicode_data exclusions : List ℕ) → List RecordValue → Type 0
AreStated unicode_data exclusions records = (r : RecordValue) → Contains records r
    ↔ ((l : DataLine) × Contains (data_lines unicode_data) l
    × (record_by (listed (data_lines exclusions)) l.text ≡ Some r))

-- the disallowed characters of a range are recorded
abbrev pub is_kept : Disallowed → ℕ → ℕ → Bool
is_kept choices.All first last = true
is_kept (choices.RangesUpTo most) first last = nat_lt (last - first) most

abbrev pub maps : Option StatusName → Bool
maps (Some names.Mapped) = true
maps _ = false

-- what is recorded of the characters of a line by its status; nothing of valid ones
abbrev pub done : Disallowed → List ℕ → Option StatusName → Option Status
done choice text (Some names.Ignored) = Some IsIgnored
done choice text (Some names.Mapped) = option_map MapsTo (mapped_to text)
done choice text (Some names.Disallowed) =
    if is_kept choice (unwrap_or (first text) 0) (unwrap_or (last text) 0) then Some IsDisallowed else None
done choice text _ = None

-- those characters, from the first to the last, with that
abbrev pub range_by : Disallowed → List ℕ → Option Uts46RangeValue
range_by choice text = option_map (λ s. record {
  first = unwrap_or (first text) 0;
  end = unwrap_or (last text) 0 + 1;
  status = s;
}) (done choice text (status text))

-- the records are those of the characters of lines, and no others
abbrev pub AreStatuses : Disallowed → (table : List ℕ) → List Uts46RecordValue → Type 0
AreStatuses choice table records = (r : Uts46RecordValue) → Contains records r
    ↔ ((l : DataLine) × Contains (data_lines table) l
    × IsSomeAnd (range_by choice l.text) (λ range. Contains (entries_of range) r))
