use Rattle.normalizer_iterators.specs.declared.error.NormalizeError.TheVariants.{Memory}
use Rattle.normalizer_iterators.proofs.items.ItemLemmas.{SpellsUnless-next, SpellsUnless-end, SpellsUnless-fault, SpellsOk-no_fault}
use Rattle.normalizer_calls.proofs.writing.first_item.Goals as goal

pub returns-in-Some-Ok-clause-first : goal.returns-in-Some-Ok-clause-first
returns-in-Some-Ok-clause-first g c = λ x spells.
    let came = SpellsUnless-next g.I.Iterator.next_gives Memory _ _ _ x (rw c.in-Some-Ok.field-0-is at c.in-Some-Ok.ensures.steps) spells in
    ((came.0, came.1), tt)

pub returns-in-Some-Err-clause-room : goal.returns-in-Some-Err-clause-room
returns-in-Some-Err-clause-room g c = λ x spells.
    absurd (SpellsOk-no_fault g.I.Iterator.next_gives _ _ _ x (rw c.in-Some-Err.field-0-is at c.in-Some-Err.ensures.steps) spells)

pub returns-in-Some-Err-clause-first : goal.returns-in-Some-Err-clause-first
returns-in-Some-Err-clause-first g c = λ x spells.
    (tt, (SpellsUnless-fault g.I.Iterator.next_gives Memory _ _ _ x (rw c.in-Some-Err.field-0-is at c.in-Some-Err.ensures.steps) spells).0)

pub returns-clause-first : goal.returns-clause-first
returns-clause-first g c = λ x spells. ((SpellsUnless-end g.I.Iterator.next_gives Memory _ _ x c.in-None.ensures.steps spells).0, tt)
