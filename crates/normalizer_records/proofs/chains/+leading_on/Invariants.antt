use Rattle.normalizer_records.proofs.chains.+leading_on.Given as goal

abbrev pub decreases-leading_on : goal.decreases-leading_on
decreases-leading_on l = l.count
