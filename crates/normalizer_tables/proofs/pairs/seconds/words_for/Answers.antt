use Rattle.std.proofs.Common.{◌≡◌, ◌+◌, ◌/◌, get_or}
use Rattle.std.specs.Prelude.{max}
use Rattle.normalizer_tables.specs.Pairs.{pair_at}
use Rattle.normalizer_tables.proofs.composites.SecondLemmas.{words_more}
use Rattle.normalizer_tables.proofs.pairs.seconds.words_for.Goals as goal

pub loop-place-preserved : goal.loop-place-preserved
unfolding pair_at
loop-place-preserved c =
    let is : c.words_with-count.result ≡ max c.loop-place.count ((get_or c.args.pairs.now c.loop-place.place (0, 0, 0)).0 / 64 + 1) = c.words_with-count.ensures in
    words_more c.args.pairs.now c.loop-place.place c.loop-place.count c.words_with-count.result is c.loop-place.invariant
