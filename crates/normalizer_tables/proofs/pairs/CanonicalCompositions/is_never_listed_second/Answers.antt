use Rattle.std.proofs.Common.{ap, ◌∙◌}
use Rattle.std.specs.Prelude.{not}
use Rattle.normalizer_tables.proofs.composites.SecondLemmas.{listed_second-decides}
use Rattle.normalizer_tables.proofs.pairs.CanonicalCompositions.is_never_listed_second.Goals as goal

pub returns : goal.returns
returns c = rw (← c.self.view_is) (listed_second-decides _ _ _ (ap not (c.has.ensures ∙ c.self.invariant.1 c.args.second)))
