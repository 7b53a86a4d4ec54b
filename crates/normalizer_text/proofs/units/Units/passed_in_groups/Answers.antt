use Rattle.normalizer_text.proofs.scans.PassingLemmas.{PassesTo-start}
use Rattle.normalizer_text.proofs.units.Units.passed_in_groups.Goals as goal

pub returns : goal.returns
returns g c = PassesTo-start g.Self.Units.encoding c.args._bytes.now (g.Self.Units.units c.args.self)
