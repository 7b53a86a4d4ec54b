use Rattle.std.proofs.Common.{subst}
use Rattle.normalizer_command.specs.Arguments.{Requests}
use Rattle.normalizer_command.proofs.arguments.parsed.Goals as goal

pub returns-clause-requested : goal.returns-clause-requested
returns-clause-requested c = subst (λ rows. Requests rows c.in_ok-request_of.field-0) c.in_ok-matches.ensures.rows c.in_ok-request_of.ensures
