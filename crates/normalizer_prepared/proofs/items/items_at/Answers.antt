use Rattle.std.proofs.lemmas.Result.{err_from_is_err_and}
use Rattle.normalizer_prepared.specs.Reading.{items_at}
use Rattle.normalizer_prepared.proofs.Loops.{goes_on, ends, is_done}
use Rattle.normalizer_prepared.proofs.items.items_at.Goals as goal

pub returns-in_err-item : goal.returns-in_err-item
returns-in_err-item g c =
    let p = err_from_is_err_and c.from_residual.result c.from_residual.ensures.1 in
    rw (p.1, p.2) (ends g.T.Item.item_at c.in_err-item.field-0.0 c.loop.items.items c.args.count c.loop.counter
    c.loop.rest.now (items_at g.T.Item.item_at c.args.count c.args.bytes.now) c.loop-test.true c.in_err-item.ensures
    c.loop.invariant)

pub loop-preserved : goal.loop-preserved
loop-preserved g c =
    rw c.in_ok-push.ensures.items (goes_on g.T.Item.item_at c.loop.items.items c.args.count c.loop.counter
    c.loop.rest.now c.in_ok-item.item c.in_ok-item.after.now
    (items_at g.T.Item.item_at c.args.count c.args.bytes.now) c.loop-test.true c.in_ok-item.ensures c.loop.invariant)

pub returns : goal.returns
returns g c =
    is_done g.T.Item.item_at c.loop.items.items c.args.count c.loop.counter c.loop.rest.now
    (items_at g.T.Item.item_at c.args.count c.args.bytes.now) c.loop-test.false c.loop.invariant
