use Rattle.normalizer_iterators.proofs.items.ItemLemmas.{SpellsUnless-next, SpellsUnless-end, SpellsUnless-fault}
use Rattle.normalizer_iterators.proofs.laws.text_comes_unless_a_fault_does.Goals as goal

pub returns-clause-next : goal.returns-clause-next
returns-clause-next g c = SpellsUnless-next g.I.Iterator.next_gives

pub returns-clause-end : goal.returns-clause-end
returns-clause-end g c = SpellsUnless-end g.I.Iterator.next_gives

pub returns-clause-refused : goal.returns-clause-refused
returns-clause-refused g c = SpellsUnless-fault g.I.Iterator.next_gives
