use Rattle.normalizer_text.proofs.scans.ScanLemmas.{steps-ascii, steps-low_units}
use Rattle.normalizer_text.proofs.laws.low_units_are_single_characters.Goals as goal

pub returns-clause-ascii : goal.returns-clause-ascii
returns-clause-ascii c = steps-ascii

pub returns-clause-units : goal.returns-clause-units
returns-clause-units c = steps-low_units
