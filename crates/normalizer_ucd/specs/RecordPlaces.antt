-- The line of a file that states a record.
use Rattle.std.specs.Prelude.{ℕ, ◌==◌, ◌&&◌, nat_le, Bool, false, List, find, Option}
use Rattle.std.specs.List.{enumerate_from}
use Rattle.std.specs.Option.{option_map, option_map_or}
use Rattle.normalizer_records.specs.declared.at_fault.RecordAtFault.{RecordAtFault}
use Rattle.normalizer_records.specs.declared.at_fault.RecordAtFault.TheVariants.{OfCharacter, OfMapper}
use Rattle.normalizer_ucd.specs.declared.error.Place.{Place}
use Rattle.normalizer_ucd.specs.declared.error.UcdFile.{UcdFile}
use Rattle.normalizer_ucd.specs.declared.error.UcdFile.TheVariants.{UnicodeData, IdnaMappingTable}
use Rattle.normalizer_ucd.specs.Fields.{code, data_of, first, last, lines}

-- the line is for the character of the record: its field 0 is that, or in the table a range that has it
unfoldable pub states : RecordAtFault → List ℕ → Bool
states (OfCharacter c) line =
    option_map_or (λ n. n == c) (code (data_of line)) false
states (OfMapper c) line =
    option_map_or (λ first. nat_le first c) (first (data_of line)) false
    && option_map_or (λ last. nat_le c last) (last (data_of line)) false

-- the first of these lines that is, the first of which has the number n
unfoldable pub first_stating : UcdFile → RecordAtFault → ℕ → List (List ℕ) → Option Place
first_stating name r n parts =
    option_map (λ x. record { file = name; line = x.0 }) (find (λ x. states r x.1) (enumerate_from n parts))

-- the line of UnicodeData.txt for the character of a record, or that of the table for the mapper's
unfoldable pub place_of_record : (unicode_data table : List ℕ) → RecordAtFault → Option Place
place_of_record unicode_data table (OfCharacter c) = first_stating UnicodeData (OfCharacter c) 1 (lines unicode_data)
place_of_record unicode_data table (OfMapper c) = first_stating IdnaMappingTable (OfMapper c) 1 (lines table)
