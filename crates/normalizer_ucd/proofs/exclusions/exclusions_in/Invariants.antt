use Rattle.normalizer_ucd.specs.declared.error.UcdFile.TheVariants.{CompositionExclusions}
use Rattle.normalizer_ucd.specs.FileFaults.{listing_findings}
use Rattle.normalizer_ucd.specs.inner.DataFileLines.{exclusion_by}
use Rattle.normalizer_ucd.proofs.Reading.{IsRead}
use Rattle.normalizer_ucd.proofs.exclusions.exclusions_in.Given as goal

abbrev pub invariant-loop-index : goal.invariant-loop-index
invariant-loop-index l =
    IsRead CompositionExclusions listing_findings (λ _. tt {0}) exclusion_by l.lines l.index tt l.exclusions.items
