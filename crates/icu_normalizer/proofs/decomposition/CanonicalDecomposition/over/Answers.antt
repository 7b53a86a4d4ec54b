use Rattle.std.proofs.Common.{refl}
use Rattle.icu_normalizer.proofs.decomposition.CanonicalDecomposition.over.Goals as goal

pub invariant_of-result : goal.invariant_of-result
invariant_of-result c = record { steps = let h = c.in_ok-check_steps.ensures.steps refl in rw c.new-characters.ensures at h }

pub returns-clause-ok : goal.returns-clause-ok
returns-clause-ok c = (refl, let h = c.in_ok-check_steps.ensures.ok refl in rw c.new-characters.ensures at h)
