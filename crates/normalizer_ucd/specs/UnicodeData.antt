-- The records of UnicodeData.txt and CompositionExclusions.txt.
use Rattle.std.specs.Prelude.{ℕ, List, Result}
use Rattle.normalizer_records.specs.RecordValue.{RecordValue}
use Rattle.normalizer_ucd.specs.declared.error.LineFault.{LineFault}
use Rattle.normalizer_ucd.specs.FallibleReads.{unless}
use Rattle.normalizer_ucd.specs.FileFaults.{fault_of_files}
use Rattle.normalizer_ucd.specs.FileLines.{stated_records}

-- those that lines state, or what is wrong with the files first
unfoldable pub records_of : (unicode_data exclusions : List ℕ) → Result (List RecordValue) LineFault
records_of unicode_data exclusions =
    unless (fault_of_files unicode_data exclusions) (stated_records unicode_data exclusions)
