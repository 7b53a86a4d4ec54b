use Rattle.std.proofs.Common.{refl}
use Rattle.normalizer_examples.proofs.CallerLemmas.{shown_difference}
use Rattle.normalizer_examples.proofs.reports.in_form.Goals as goal

pub returns-in-Ok-Some : goal.returns-in-Ok-Some
returns-in-Ok-Some c = shown_difference _ _ _ refl (rw c.in-Ok-Some.field-0-is at c.in-Ok-Some.ensures.is)
