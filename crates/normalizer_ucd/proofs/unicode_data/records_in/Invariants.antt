use Rattle.std.proofs.Common.{map}
use Rattle.normalizer_ucd.specs.declared.error.UcdFile.TheVariants.{UnicodeData}
use Rattle.normalizer_ucd.specs.FileFaults.{data_findings}
use Rattle.normalizer_ucd.specs.FileLines.{record_by}
use Rattle.normalizer_ucd.specs.inner.DataFileLines.{position_by, value_of}
use Rattle.normalizer_ucd.proofs.Reading.{IsRead}
use Rattle.normalizer_ucd.proofs.unicode_data.records_in.Given as goal

abbrev pub invariant-loop-index : goal.invariant-loop-index
invariant-loop-index l =
    IsRead UnicodeData data_findings position_by (λ d. record_by (map (λ e. e.code) l.exclusions) d.text) l.lines l.index
    (value_of l.position) l.records.items
