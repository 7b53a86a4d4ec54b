use Rattle.std.proofs.Common.{◌≡◌, ◌+◌, ◌*◌, ◌/◌, ◌%◌, arith, ap, sym, subst, ◌∙◌}
use Rattle.normalizer_passing.specs.PassBytes.{byte_in, IsByteOfUnit}
use Rattle.normalizer_passing.specs.inner.Kept.{all_bytes}
use Rattle.normalizer_passing.proofs.ByteLemmas.{looked_up}
use Rattle.normalizer_passing.proofs.pass_bytes.PassBytes.of_unit.Goals as goal

pub returns : goal.returns
returns c =
    let blocks = c.self.inside.blocks.items in
    let units = c.self.inside.units.items in
    let are = c.self.invariant.of_units in
    let unit = c.args.unit in
    let whole : 64 * (unit / 64) + unit % 64 ≡ unit = omega arith in
    let read = looked_up blocks units (unit / 64) (unit % 64) c.index.result.now c.index-2.result.now are.within (omega (arith, are.long, c.ranges.unit.fits)) (omega arith) c.index.ensures c.index-2.ensures in
    rw (← c.self.view_is) (subst (IsByteOfUnit (all_bytes blocks c.self.inside.numbers.items) unit) (sym (read ∙ ap (byte_in blocks units) whole)) (are.bytes unit (omega (arith, c.ranges.unit.fits))))
