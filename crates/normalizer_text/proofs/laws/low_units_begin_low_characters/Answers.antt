use Rattle.normalizer_text.proofs.scans.LowLemmas.{first-ascii, first-low_unit, character-low, decoded-low}
use Rattle.normalizer_text.proofs.laws.low_units_begin_low_characters.Goals as goal

pub returns-clause-ascii : goal.returns-clause-ascii
returns-clause-ascii c = first-ascii

pub returns-clause-unit : goal.returns-clause-unit
returns-clause-unit c = first-low_unit

pub returns-clause-below : goal.returns-clause-below
returns-clause-below c = character-low

pub returns-clause-all_below : goal.returns-clause-all_below
returns-clause-all_below c = decoded-low
