use Rattle.std.proofs.Common.{arith}
use Rattle.std.proofs.lemmas.Bool.Decides.{nat_tests}
use Rattle.normalizer_passing.specs.PassBytes.{least_after}
use Rattle.normalizer_text.proofs.passing.least_after.Goals as goal

pub returns : goal.returns
unfolding least_after
returns c = grind (arith, nat_tests, c.from.ensures)
