use Rattle.std.proofs.Common.{Some, subst, sym}
use Rattle.std.specs.Fn.{FnReturnsAt}
use Rattle.std.proofs.lemmas.Fn.{says_at}
use Rattle.normalizer_records.specs.AtFault.{IsFirstFound}
use Rattle.normalizer_records.proofs.record_faults.FirstLemmas.{found, goes_on, none}
use Rattle.normalizer_records.proofs.at_fault.first_with.Goals as goal

pub returns-then-test : goal.returns-then-test
returns-then-test g c =
    let key = g.T.HasCharacter.character in
    let says = FnReturnsAt g.F.Fn c.args.test in
    subst (λ n. IsFirstFound key says c.args.items.now (Some n)) (sym c.character.ensures)
    (found key says c.args.items.now c.loop-item.item-index c.item-item.result c.item-item.is c.loop-item-test.true
    c.loop-item.invariant (says_at g.F.Fn c.test.ensures c.if-test.true))

pub loop-item-preserved : goal.loop-item-preserved
loop-item-preserved g c =
    goes_on g.T.HasCharacter.character (FnReturnsAt g.F.Fn c.args.test) c.args.items.now c.loop-item.item-index
    c.item-item.result c.item-item.is c.loop-item-test.true c.loop-item.invariant
    (says_at g.F.Fn c.test.ensures c.if-test.false)

pub returns : goal.returns
returns g c =
    none g.T.HasCharacter.character (FnReturnsAt g.F.Fn c.args.test) c.args.items.now c.loop-item.item-index
    c.loop-item-test.false c.loop-item.invariant
