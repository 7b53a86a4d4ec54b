use Rattle.normalizer_command.proofs.ArgumentLemmas.{rows_are, taken_are}
use Rattle.normalizer_command.proofs.arguments.matches.Goals as goal

pub returns-clause-rows : goal.returns-clause-rows
returns-clause-rows c = rows_are _ _ _ c.in_ok-command.ensures c.try_get_matches_from.ensures.matches

pub returns-clause-taken : goal.returns-clause-taken
returns-clause-taken c = taken_are _ _ _ c.in_ok-command.ensures c.try_get_matches_from.ensures.passes
