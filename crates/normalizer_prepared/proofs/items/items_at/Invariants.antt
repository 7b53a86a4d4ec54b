use Rattle.std.proofs.Common.{◌≡◌, ◌-◌}
use Rattle.normalizer_prepared.specs.Reading.{items_at}
use Rattle.normalizer_prepared.proofs.Loops.{with_front}
use Rattle.normalizer_prepared.proofs.items.items_at.Given as goal

abbrev pub invariant-loop : goal.invariant-loop
invariant-loop g l =
    with_front l.items.items (items_at g.T.Item.item_at (l.count - l.counter) l.rest)
    ≡ items_at g.T.Item.item_at l.count l.bytes
