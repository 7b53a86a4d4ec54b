use Rattle.std.proofs.Common.{arith, ◌∙◌}
use Rattle.normalizer_passing.proofs.ByteLemmas.{byte_of-all}
use Rattle.normalizer_passing.proofs.pass_bytes.PassBytes.low.Goals as goal

pub returns : goal.returns
returns c = λ n below. rw (← c.self.view_is) (byte_of-all _ _ n (let w = c.self.inside.low.within in omega arith) ∙ c.self.invariant.below n below)
