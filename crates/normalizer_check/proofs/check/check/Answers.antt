use Rattle.std.proofs.Common.{refl}
use Rattle.normalizer_tables.specs.conditions.Conditions.{IsFirstFailing, IsMet}
use Rattle.normalizer_check.proofs.conditions.FailingLemmas.{IsFirstFailing-not_all}
use Rattle.normalizer_check.proofs.check.check.Goals as goal

pub returns-in-Some-clause-ok : goal.returns-in-Some-clause-ok
returns-in-Some-clause-ok c = (λ h. cc, λ all. absurd (IsFirstFailing-not_all (IsMet c.args.data.now) c.args.conditions.now c.in-Some.condition c.in-Some.ensures all))

pub returns-in-None-clause-ok : goal.returns-in-None-clause-ok
unfolding IsFirstFailing
returns-in-None-clause-ok c = (λ h. c.in-None.ensures, λ all. refl)
