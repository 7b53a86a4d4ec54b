use Rattle.std.proofs.Common.{◌∙◌}
use Rattle.normalizer_ucd.proofs.ExclusionLemmas.{any_code}
use Rattle.normalizer_ucd.proofs.unicode_data.is_excluded.Goals as goal

pub returns : goal.returns
returns c = c.is_listed.ensures ∙ any_code c.args.exclusions.now c.args.code
