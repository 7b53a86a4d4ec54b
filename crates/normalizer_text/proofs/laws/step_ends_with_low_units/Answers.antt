use Rattle.normalizer_text.proofs.scans.ScanLemmas.{All-leading_below, boundary-ascii, boundary-low_units, boundary-low_bytes, text-low_bytes}
use Rattle.normalizer_text.proofs.laws.step_ends_with_low_units.Goals as goal

pub returns-clause-below : goal.returns-clause-below
returns-clause-below c = All-leading_below

pub returns-clause-ascii : goal.returns-clause-ascii
returns-clause-ascii c = boundary-ascii

pub returns-clause-units : goal.returns-clause-units
returns-clause-units c = boundary-low_units

pub returns-clause-bytes : goal.returns-clause-bytes
returns-clause-bytes c = boundary-low_bytes

pub returns-clause-text : goal.returns-clause-text
returns-clause-text c = text-low_bytes
