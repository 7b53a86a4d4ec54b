use Rattle.normalizer_ucd.specs.declared.error.UcdFile.TheVariants.{IdnaMappingTable}
use Rattle.normalizer_ucd.specs.FileFaults.{table_findings}
use Rattle.normalizer_ucd.specs.FileLines.{range_by}
use Rattle.normalizer_ucd.specs.inner.TableLines.{covered_by}
use Rattle.normalizer_ucd.proofs.Reading.{IsRead}
use Rattle.normalizer_ucd.proofs.idna_table.ranges_in.Given as goal

abbrev pub invariant-loop-index : goal.invariant-loop-index
invariant-loop-index l =
    IsRead IdnaMappingTable table_findings covered_by (λ d. range_by l.disallowed d.text) l.lines l.index l.covered
    l.ranges.items
