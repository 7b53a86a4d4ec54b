use Rattle.std.proofs.Common.{refl}
use Rattle.normalizer_check.proofs.conditions.EachCondition.{of_each-plain}
use Rattle.normalizer_check.proofs.check.met.is_met_of_plain.Goals as goal

pub returns-in_default : goal.returns-in_default
returns-in_default c = (λ yes. of_each-plain c.args.data.now c.args.condition c.in_default.not-SafeBeginning, λ all. refl)
