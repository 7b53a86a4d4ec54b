use Rattle.normalizer_iterators.proofs.composing.CompositionLemmas.{Goes}
use Rattle.normalizer_iterators.proofs.composition.CompositionIterator.next.Goals as goal

pub returns-clause-goes : goal.returns-clause-goes
returns-clause-goes g c = Goes g.I.Iterator c.args.self.now _ _ c.requires c.next_item.ensures
