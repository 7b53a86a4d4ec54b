-- Lines of IdnaMappingTable.txt.
use Rattle.std.specs.Prelude.{◌≡◌, ℕ, List, Option}
use Rattle.std.specs.Option.{is_none, option_map, option_map_or}
use Rattle.normalizer_ucd.specs.declared.idna_table.Covered.{Covered}
use Rattle.normalizer_ucd.specs.declared.idna_table.TableFields.{TableFields}
use Rattle.normalizer_ucd.specs.Fields as fields
use Rattle.normalizer_ucd.specs.FileFaults.{next_after}
use Rattle.normalizer_ucd.specs.FileLines.{DataLine}
use Rattle.normalizer_ucd.specs.inner.Lines.{text_of}

-- they are what the fields of a line say
pub record AreFieldsOf (text : List ℕ) (read : TableFields) : Type 0 where
  pub first : read.first ≡ fields.first text
  pub last : read.last ≡ fields.last text
  pub lacks_status : read.lacks_status ≡ is_none (fields.field text 1)
  pub status : read.status ≡ fields.status text
  pub lacks_mapping : read.lacks_mapping ≡ is_none (fields.field text 2)
  pub mapping : option_map (λ v. v.items) read.mapping ≡ fields.mapped_to text

-- what the lines up to one with data cover
abbrev pub covered_by : Option DataLine → Covered
covered_by last = record { end = next_after (text_of last); line = option_map_or (λ l. l.number) last 1 }
