use Rattle.std.proofs.Common.{◌∙◌}
use Rattle.normalizer_calls.proofs.results.QualifyingLemmas.{IsKeptTo-qualifies, normalized-whole}
use Rattle.normalizer_calls.proofs.segments.KeptLemmas.{IsKeptTo-first}
use Rattle.normalizer_calls.proofs.offence.cut_of.Goals as goal

pub returns-then-passed-len-clause-cut : goal.returns-then-passed-len-clause-cut
returns-then-passed-len-clause-cut g c =
    normalized-whole _ _ _ _ _ (IsKeptTo-qualifies _ _ _ _ _ (IsKeptTo-first _ _ _ _ _ c.passthrough_end-passed.ensures.0)) (c.if-passed-len.true ∙ c.len.ensures)
