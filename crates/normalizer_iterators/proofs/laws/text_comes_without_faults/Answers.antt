use Rattle.normalizer_iterators.proofs.items.ItemLemmas.{SpellsOk-next, SpellsOk-end, SpellsOk-no_fault, SpellsUnless-ok}
use Rattle.normalizer_iterators.proofs.laws.text_comes_without_faults.Goals as goal

pub returns-clause-next : goal.returns-clause-next
returns-clause-next g c = SpellsOk-next g.I.Iterator.next_gives

pub returns-clause-end : goal.returns-clause-end
returns-clause-end g c = SpellsOk-end g.I.Iterator.next_gives

pub returns-clause-refused : goal.returns-clause-refused
returns-clause-refused g c = SpellsOk-no_fault g.I.Iterator.next_gives

pub returns-clause-unless : goal.returns-clause-unless
returns-clause-unless g c = SpellsUnless-ok g.I.Iterator.next_gives
