use Rattle.std.proofs.Common.{◌==◌, length, sym, ◌∙◌, rules, tests}
use Rattle.std.proofs.lemmas.Iterator.{YieldsList-from_slice}
use Rattle.std.proofs.lemmas.Iterator.Search.{all_from_yields_List}
use Rattle.icu_normalizer.specs.MapperRanges.{entries_of}
use Rattle.normalizer_handles.proofs.RangeLemmas.{empty_together}
use Rattle.normalizer_handles.proofs.mapper_ranges.list_nothing.Goals as goal

pub returns : goal.returns
returns c =
    all_from_yields_List (λ r. length (entries_of r) == 0) _ _ c.all.result c.all.ensures.ran
    (YieldsList-from_slice c.args.ranges.now cc) (λ x b q k. search (rules, tests))
    ∙ sym (empty_together entries_of c.args.ranges.now)
