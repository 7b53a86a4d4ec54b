-- Lines of UnicodeData.txt and CompositionExclusions.txt.
use Rattle.std.specs.Prelude.{◌≡◌, ◌+◌, ℕ, false, List, None, Option, Some, if◌then◌else◌}
use Rattle.std.specs.Option.{is_none, option_and_then, option_copied, option_map, option_map_or, unwrap_or}
use Rattle.normalizer_records.specs.RecordValue.{RecordValue}
use Rattle.normalizer_ucd.specs.declared.error.LineFault.{LineFault}
use Rattle.normalizer_ucd.specs.declared.error.Problem.TheVariants.{Unmapped}
use Rattle.normalizer_ucd.specs.declared.error.UcdFile.TheVariants.{CompositionExclusions}
use Rattle.normalizer_ucd.specs.declared.exclusions.Exclusion.{Exclusion}
use Rattle.normalizer_ucd.specs.declared.unicode_data.DataFields.{DataFields}
use Rattle.normalizer_ucd.specs.declared.unicode_data.Position.{Position}
use Rattle.normalizer_ucd.specs.FallibleReads.{fault}
use Rattle.normalizer_ucd.specs.Fields as fields
use Rattle.normalizer_ucd.specs.FileFaults.{is_mapped}
use Rattle.normalizer_ucd.specs.FileLines.{DataLine}
use Rattle.normalizer_ucd.specs.Versions.{find_map}
use Rattle.normalizer_ucd.specs.inner.Lines.{text_of}

-- they are what the fields of a line say
pub record AreFieldsOf (text : List ℕ) (read : DataFields) : Type 0 where
  pub lacks_last : read.lacks_last ≡ is_none (fields.field text 14)
  pub code : read.code ≡ fields.code text
  pub begins : read.begins ≡ fields.begins_range text
  pub ends : read.ends ≡ fields.ends_range text
  pub class : read.class ≡ fields.class text
  pub mapping : option_map (λ v. v.items) read.mapping ≡ fields.mapping text
  pub compatibility : read.compatibility ≡ option_map_or fields.is_tagged (fields.field text 5) false

-- the position after lines: the least code point that may be next, the line that begins the range that is open, and the
-- number of the last line with data
pub record PositionValue : Type 0 where
  pub next : ℕ
  pub range : Option (List ℕ)
  pub line : ℕ

abbrev pub value_of : Position → PositionValue
value_of p = record { next = p.next; range = option_copied p.range; line = p.line }

abbrev pub next_after : Option (List ℕ) → ℕ
next_after before = option_map_or (λ t. unwrap_or (fields.code t) 0 + 1) before 0

abbrev pub open_range : Option (List ℕ) → Option (List ℕ)
open_range before = option_and_then (λ t. if fields.begins_range t then Some t else None) before

abbrev pub position_by : Option DataLine → PositionValue
position_by last = record {
  next = next_after (text_of last);
  range = open_range (text_of last);
  line = option_map_or (λ l. l.number) last 0;
}

-- what a line of CompositionExclusions.txt lists
abbrev pub exclusion_by : DataLine → Option Exclusion
exclusion_by l = option_map (λ c. record { code = c; line = l.number }) (fields.code l.text)

-- the first of the characters that has no canonical mapping
abbrev pub first_unmapped : List RecordValue → List Exclusion → Option LineFault
first_unmapped records exclusions = find_map (λ e. if is_mapped records e.code then None
    else Some (fault (record { file = CompositionExclusions; line = e.line }) Unmapped)) exclusions
