use Rattle.std.proofs.Common.{◌∙◌}
use Rattle.normalizer_tables.proofs.composites.BucketLemmas.{chained_none}
use Rattle.normalizer_tables.proofs.pairs.buckets.PairBuckets.from_pairs.Goals as goal

pub chain-requires : goal.chain-requires
chain-requires c =
    rw (c.deref.ensures.value, c.deref_mut.ensures.value, c.deref_mut-2.ensures.value)
    (chained_none _ _ _ _ (c.len-past.ensures ∙ c.args.pairs.ok.0) (c.in_ok-heads.ensures.items_if_clones_equal (λ y same. same)) (c.in_ok-nexts.ensures.items_if_clones_equal (λ y same. same)))
