use Rattle.std.proofs.Common.{arith, ◌∙◌}
use Rattle.normalizer_passing.proofs.ByteLemmas.{byte_of-all}
use Rattle.normalizer_passing.proofs.pass_bytes.PassBytes.has_no_surrogate.Goals as goal

pub returns : goal.returns
returns c = λ n from to. rw (← c.self.view_is) (byte_of-all _ _ n (omega arith) ∙ c.self.invariant.surrogates n from to)
