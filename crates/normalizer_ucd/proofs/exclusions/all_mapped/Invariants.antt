use Rattle.std.proofs.Common.{◌≡◌, drop}
use Rattle.normalizer_ucd.specs.inner.DataFileLines.{first_unmapped}
use Rattle.normalizer_ucd.proofs.exclusions.all_mapped.Given as goal

abbrev pub invariant-loop-exclusion : goal.invariant-loop-exclusion
invariant-loop-exclusion l = first_unmapped l.records (drop l.exclusion-index l.exclusions)
    ≡ first_unmapped l.records l.exclusions
