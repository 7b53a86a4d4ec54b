-- The records of files are those that their lines state.
use Rattle.std.proofs.Common.{◌≡◌, ℕ, List, Option, Ok, subst}
use Rattle.std.specs.List.{filter_map}
use Rattle.std.specs.Prelude.{Contains}
use Rattle.normalizer_records.specs.Ranges.{Uts46RangeValue, entries_of}
use Rattle.normalizer_records.specs.RecordValue.{RecordValue, Uts46RecordValue}
use Rattle.normalizer_ucd.specs.declared.idna_table.Disallowed.{Disallowed}
use Rattle.normalizer_ucd.specs.FileLines.{AreStated, AreStatuses, data_lines, DataLine, listed as listed_by, range_by, record_by}
use Rattle.normalizer_ucd.specs.FileFaults.{fault_of_files, fault_of_table}
use Rattle.normalizer_ucd.specs.UnicodeData.{records_of}
use Rattle.normalizer_ucd.specs.IdnaTable.{uts46_records_beside}
use Rattle.normalizer_ucd.proofs.Reading.{unless_ok}
use Rattle.normalizer_ucd.proofs.LinesStated.{found, has_some, listed, some_has}

pub records_are_stated : (unicode_data exclusions : List ℕ) (records : List RecordValue) →
    records_of unicode_data exclusions ≡ Ok records → AreStated unicode_data exclusions records
unfolding records_of
records_are_stated unicode_data exclusions records h =
    subst (AreStated unicode_data exclusions) (unless_ok (fault_of_files unicode_data exclusions) _ records h)
    (λ r. found (λ (l : DataLine). record_by (listed_by (data_lines exclusions)) l.text) (data_lines unicode_data) r)

module _ (choice : Disallowed) where
  abbrev range_at : DataLine → Option Uts46RangeValue
  range_at l = range_by choice l.text

  pub statuses_are_stated : (exclusions table : List ℕ) (records : List Uts46RecordValue) →
      uts46_records_beside exclusions choice table ≡ Ok records → AreStatuses choice table records
  unfolding uts46_records_beside
  statuses_are_stated exclusions table records h =
      subst (AreStatuses choice table) (unless_ok (fault_of_table exclusions table) _ records h)
      (λ r. (
        λ has.
            let of_range = (listed entries_of (filter_map range_at (data_lines table)) r).0 has in
            let of_line = (found range_at (data_lines table) of_range.0).0 of_range.1 in
            (of_line.0, of_line.1, some_has (range_at of_line.0) of_range.0 (λ g. Contains (entries_of g) r) of_line.2 of_range.2),
        λ says.
            let range = has_some (range_at says.0) (λ g. Contains (entries_of g) r) says.2 in
            (listed entries_of (filter_map range_at (data_lines table)) r).1
            (range.0, (found range_at (data_lines table) range.0).1 (says.0, says.1, range.1), range.2),
      ))
