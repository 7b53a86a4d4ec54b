use Rattle.std.proofs.Common.{◌||◌, ap, ◌∙◌}
use Rattle.std.proofs.lemmas.Iterator.Adapters.{items_from_extend}
use Rattle.std.proofs.lemmas.Iterator.Consumers.{YieldsList-from_rest, YieldsList-from_copied}
use Rattle.std.specs.BTreeSet.{contains}
use Rattle.std.specs.Ordering.{nat_cmp}
use Rattle.normalizer_records.proofs.chains.add_common.Goals as goal

pub returns : goal.returns
returns c =
    let h = rw c.in_ok-extend.was at (items_from_extend c.extend.result c.extend.ensures.ran (YieldsList-from_copied (YieldsList-from_rest c.intersection.result cc))) in
    λ q. h.0 q ∙ ap (λ b. contains nat_cmp c.args.found.now q || b) (c.intersection.ensures.members q)
