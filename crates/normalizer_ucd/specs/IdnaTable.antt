-- The mapper's records of IdnaMappingTable.txt.
use Rattle.std.specs.Prelude.{ℕ, ◌<◌, ◌≤◌, List, [], Contains, IsSomeAnd, Result}
use Rattle.std.specs.List.{filter_map, flat_map}
use Rattle.normalizer_records.specs.RecordValue.{Uts46RecordValue}
use Rattle.normalizer_records.specs.Ranges.{entries_of}
use Rattle.normalizer_ucd.specs.declared.error.LineFault.{LineFault}
use Rattle.normalizer_ucd.specs.declared.idna_table.Disallowed.{Disallowed}
use Rattle.normalizer_ucd.specs.FallibleReads.{unless}
use Rattle.normalizer_ucd.specs.Fields.{data_of, first, last}
use Rattle.normalizer_ucd.specs.FileFaults.{fault_of_table}
use Rattle.normalizer_ucd.specs.FileLines.{data_lines, range_by}

-- those of the characters of lines beside the exclusions, or what is wrong with the table first
unfoldable pub uts46_records_beside : (exclusions : List ℕ) → Disallowed → List ℕ →
    Result (List Uts46RecordValue) LineFault
uts46_records_beside exclusions choice table = unless (fault_of_table exclusions table)
    (flat_map entries_of (filter_map (λ l. range_by choice l.text) (data_lines table)))

-- the same beside no file that states a version
abbrev pub uts46_records_of : Disallowed → List ℕ → Result (List Uts46RecordValue) LineFault
uts46_records_of choice table = uts46_records_beside [] choice table

-- the range of the first field has the code point
abbrev pub Lists : List ℕ → ℕ → Type 0
Lists line c = IsSomeAnd (first (data_of line)) (λ n. n ≤ c) × IsSomeAnd (last (data_of line)) (λ n. c ≤ n)

-- each code point is listed by a line
abbrev pub ListsAll : List (List ℕ) → Type 0
ListsAll parts = (c : ℕ) → c < 0x110000 → (line : List ℕ) × Contains parts line × Lists line c
