use Rattle.std.proofs.Common.{subst, IsTrue}
use Rattle.normalizer_prepared.proofs.SameData.{same_pairs}
use Rattle.normalizer_prepared.proofs.writing.have_equal_pairs.Goals as goal

pub returns : goal.returns
returns c = λ yes. same_pairs c.args.compositions.now c.args.other.now (subst IsTrue c.eq.ensures yes)
