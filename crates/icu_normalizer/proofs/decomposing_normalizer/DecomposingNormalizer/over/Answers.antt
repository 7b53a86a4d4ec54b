use Rattle.std.proofs.Common.{refl}
use Rattle.std.specs.Prelude.{false}
use Rattle.normalizer_tables.specs.Owned.{characters_owned}
use Rattle.icu_normalizer.specs.Acceptance.{SuitsDecomposing}
use Rattle.icu_normalizer.proofs.acceptance.NormalizerData.{ServesDecomposing-met}
use Rattle.icu_normalizer.proofs.decomposing_normalizer.DecomposingNormalizer.over.Goals as goal
use Rattle.icu_normalizer.proofs.decomposing_normalizer.DecomposingNormalizer.over.Goals.{In_ok-check}

-- the data that were supplied meet the conditions
met : (c : In_ok-check) → SuitsDecomposing (characters_owned c.args.characters false)
met c = let h = c.in_ok-check.ensures.ok.0 refl in rw (c.decomposing_conditions.ensures, c.new-loaded.ensures, c.of_cap-bounds.ensures, c.cap.ensures, c.as_borrowed-borrowed.ensures) at h

pub invariant_of-result : goal.invariant_of-result
invariant_of-result c = record { bounded = rw (c.of_cap-bounds.ensures, c.cap.ensures, c.as_borrowed-borrowed.ensures) refl; serves = ServesDecomposing-met _ refl (met c) }

pub returns-clause-ok : goal.returns-clause-ok
returns-clause-ok c = (refl, met (goal.at.returns-clause-ok c).In_ok-check)
