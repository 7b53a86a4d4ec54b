use Rattle.normalizer_text.proofs.steps.StepLemmas.{Spells-TakesFirst}
use Rattle.normalizer_text.proofs.steps.BackLemmas.{Spells-TakesLast}
use Rattle.normalizer_text.proofs.chars.Chars.new.Goals as goal

pub returns-clause-spells : goal.returns-clause-spells
returns-clause-spells g c =
    let e = g.U.Units.encoding in Spells-TakesFirst e (g.U.Units.units c.args.units)

pub returns-clause-spells_back : goal.returns-clause-spells_back
returns-clause-spells_back g c =
    let e = g.U.Units.encoding in Spells-TakesLast e (g.U.Units.units c.args.units)
