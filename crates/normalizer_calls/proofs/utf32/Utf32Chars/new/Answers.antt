use Rattle.normalizer_calls.proofs.results.Utf32Lemmas.{Spells-units}
use Rattle.normalizer_calls.proofs.utf32.Utf32Chars.new.Goals as goal

pub returns-clause-spells : goal.returns-clause-spells
returns-clause-spells c = Spells-units c.args.units.now
