use Rattle.std.proofs.Common.{refl}
use Rattle.normalizer_handles.proofs.properties.Properties.over.Goals as goal

pub invariant_of-result : goal.invariant_of-result
invariant_of-result c = record { steps = let h = c.in_ok-check_steps.ensures.steps refl in rw c.characters.ensures at h }
