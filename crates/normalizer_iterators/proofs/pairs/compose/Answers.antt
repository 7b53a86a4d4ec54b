use Rattle.std.proofs.Common.{sym, ◌∙◌}
use Rattle.normalizer_tables.proofs.composites.SecondLemmas.{pair_of-none}
use Rattle.normalizer_iterators.proofs.pairs.compose.Goals as goal

pub returns-else-may_be_second : goal.returns-else-may_be_second
returns-else-may_be_second c =
    sym (pair_of-none c.args.pairs.now c.args.second (sym c.may_be_second.ensures ∙ c.if-may_be_second.false) c.args.first)
