use Rattle.std.proofs.Common.{refl, rules}
use Rattle.normtool_command.proofs.run.program.Goals as goal

pub returns-in-Some : goal.returns-in-Some
returns-in-Some g c = record {
  usage = λ none. absurd (none c.in-Some.records c.in-Some.command ((c.in-Some.ensures c.in-Some.records c.in-Some.command).0 refl));
  run = search rules;
}
