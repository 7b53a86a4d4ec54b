use Rattle.normalizer_iterators.proofs.items.ItemLemmas.{HasEnded-next}
use Rattle.normalizer_iterators.proofs.laws.nothing_comes_after_the_end.Goals as goal

pub returns : goal.returns
returns g c = HasEnded-next g.I.Iterator.next_gives
