-- The mapper's records of IdnaMappingTable.txt are sorted by character.
use Rattle.std.proofs.Common.{◌≡◌, ℕ, List, None, Ok, subst}
use Rattle.std.specs.List.{filter_map, flat_map, last_or}
use Rattle.normalizer_records.specs.Faults.{AreMapperRising}
use Rattle.normalizer_records.proofs.RangeRecords.{character, of_ranges}
use Rattle.normalizer_records.proofs.RisingLemmas.{rising}
use Rattle.normalizer_records.specs.Ranges.{entries_of}
use Rattle.normalizer_records.specs.RecordValue.{Uts46RecordValue}
use Rattle.normalizer_ucd.specs.declared.idna_table.Disallowed.{Disallowed}
use Rattle.normalizer_ucd.specs.Fields.{lines}
use Rattle.normalizer_ucd.specs.FileLines.{data_lines, range_by}
use Rattle.normalizer_ucd.specs.FileFaults.{fault_of_table, next_after}
use Rattle.normalizer_ucd.specs.IdnaTable.{uts46_records_beside}
use Rattle.normalizer_ucd.specs.inner.Lines.{text_of}
use Rattle.normalizer_ucd.proofs.Covers.{table_right}
use Rattle.normalizer_ucd.proofs.Reading.{no_fault}
use Rattle.normalizer_ucd.proofs.TableLines.{ranges_within}

pub mapper_records_are_rising : (exclusions table : List ℕ) (choice : Disallowed) (records : List Uts46RecordValue) →
    uts46_records_beside exclusions choice table ≡ Ok records → AreMapperRising records
unfolding uts46_records_beside
mapper_records_are_rising exclusions table choice records h =
    let ls = data_lines table in
    let ranges = filter_map (λ l. range_by choice l.text) ls in
    let read = no_fault (fault_of_table exclusions table) (flat_map entries_of ranges) records h in
    let within = ranges_within choice 1 None (lines table) (table_right exclusions table read.0).0 in
    subst AreMapperRising read.1
    (rising character 0 (next_after (text_of (last_or None ls))) (flat_map entries_of ranges)
    (of_ranges 0 (next_after (text_of (last_or None ls))) ranges within))
