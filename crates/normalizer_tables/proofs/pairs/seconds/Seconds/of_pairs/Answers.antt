use Rattle.std.proofs.Common.{◌∙◌, ap, arith, length}
use Rattle.std.proofs.lemmas.List.{length-replicate, length-set}
use Rattle.normalizer_tables.specs.Pairs.{pair_at}
use Rattle.normalizer_tables.proofs.composites.SecondLemmas.{AreBitsOf-more, AreBitsOf-none}
use Rattle.normalizer_tables.proofs.pairs.seconds.Seconds.of_pairs.Goals as goal

pub loop-place-init : goal.loop-place-init
loop-place-init c =
    let zeros = c.in_ok-words.ensures.items_if_clones_equal (λ y same. same) in (
      λ k below. let wide = c.words_for.ensures k below in omega (arith, ap length zeros ∙ length-replicate c.words_for.result 0),
      AreBitsOf-none _ _ zeros c.args.pairs.now,
    )

pub index_mut-requires : goal.index_mut-requires
unfolding pair_at
index_mut-requires c =
    let wide = c.loop-place.invariant.0 c.loop-place.place c.loop-place-test.true in
    omega (arith, wide, c.loop-place.words.ok.0)

pub loop-place-preserved : goal.loop-place-preserved
unfolding pair_at
loop-place-preserved c =
    let within = c.loop-place-test.true in
    let wide = c.loop-place.invariant.0 c.loop-place.place within in (
      λ k below. rw (length-set c.loop-place.words.items _ _) (c.loop-place.invariant.0 k below),
      AreBitsOf-more _ _ _ _ within wide c.index_mut.ensures.value c.loop-place.invariant.1,
    )
