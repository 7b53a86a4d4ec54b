use Rattle.std.proofs.Common.{rules}
use Rattle.icu_normalizer.specs.Building.{IsSmallest}
use Rattle.normalizer_by_files.proofs.by_records.form_by_records.Goals as goal

pub normalizer_to-requires : goal.normalizer_to-requires
normalizer_to-requires c = (c.args.records.now, c.args.uts46.now, c.in_ok-built.ensures)

pub returns-in_default : goal.returns-in_default
unfolding IsSmallest
returns-in_default c = search rules

pub returns : goal.returns
unfolding IsSmallest
returns c = search rules
