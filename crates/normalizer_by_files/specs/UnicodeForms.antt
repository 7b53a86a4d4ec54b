-- Why the files of the Unicode Character Database yield no normal form.
use Rattle.std.specs.Prelude.{◌≡◌, ℕ, List, [], Ok}
use Rattle.icu_normalizer.specs.RecordValue.{RecordValue}
use Rattle.icu_normalizer.specs.Building.{IsSmallest}
use Rattle.normalizer_ucd.specs.FallibleReads.{Fails}
use Rattle.normalizer_ucd.specs.UnicodeData.{records_of}
use Rattle.normalizer_by_files.specs.declared.by_unicode_data.UnicodeFault.{UnicodeFault}
use Rattle.normalizer_by_files.specs.declared.by_unicode_data.UnicodeFault.TheVariants.{File, Records}

-- the first line that is wrong, or what is wrong with the records, or memory ran out
abbrev pub IsFaultOfFiles : List ℕ → List ℕ → UnicodeFault → Type 0
IsFaultOfFiles unicode_data exclusions (File e) = Fails e (records_of unicode_data exclusions)
IsFaultOfFiles unicode_data exclusions (Records e) =
    (records : List RecordValue) × (records_of unicode_data exclusions ≡ Ok records) × IsSmallest records [] e
