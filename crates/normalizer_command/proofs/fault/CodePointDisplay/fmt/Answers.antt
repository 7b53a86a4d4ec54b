use Rattle.normalizer_command.proofs.CodePointLemmas.{styled_code_point}
use Rattle.normalizer_command.proofs.fault.CodePointDisplay.fmt.Goals as goal

pub returns-clause-writes : goal.returns-clause-writes
returns-clause-writes g c = rw (styled_code_point c.in_radix.result c.laid_out.result c.args.self.now.0 c.laid_out.ensures c.in_radix.ensures) at c.write.ensures.writes
