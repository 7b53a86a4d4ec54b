use Rattle.std.proofs.Common.{arith, ◌∙◌}
use Rattle.std.proofs.lemmas.List.{with_items_is}
use Rattle.std.proofs.lemmas.List.Elements.{All-weaker}
use Rattle.normalizer_passing.proofs.BlockLemmas.{byte_of-kept, stopped-kept, AreNumbers-kept, HasNoSurrogate-kept}
use Rattle.normalizer_passing.proofs.pass_bytes.PassBytes.from_blocks.Goals as goal

pub invariant_of-result : goal.invariant_of-result
invariant_of-result c =
    let same = c.deref.ensures.value ∙ with_items_is c.args.blocks c.stop_all.new.blocks (omega arith) in
    record {
      numbered = AreNumbers-kept _ c.args.numbers.now c.stop_all.ensures.less.numbered _ _ _ (rw same at c.in_ok-places.ensures) c.in_ok-numbers.ensures c.units_of.new.blocks.items c.in_ok-units.ensures.longer;
      surrogates = HasNoSurrogate-kept _ c.args.numbers.now c.stop_all.ensures.less.numbered _ _ _ (rw same at c.in_ok-places.ensures) c.in_ok-numbers.ensures c.units_of.new.blocks.items c.in_ok-units.ensures.longer;
      of_units = rw (← c.deref-2.ensures.value) c.in_ok-units.ensures.units;
      below = λ n below. rw (← c.deref-4.ensures.value, ← c.deref-3.ensures.value) (c.first_other.ensures.below n (rw (← c.new-low.ensures) below));
    }

pub returns-clause-bytes : goal.returns-clause-bytes
returns-clause-bytes c =
    let same = c.deref.ensures.value ∙ with_items_is c.args.blocks c.stop_all.new.blocks (omega arith) in
    byte_of-kept _ c.args.numbers.now c.stop_all.ensures.less.numbered _ _ _ (rw same at c.in_ok-places.ensures) c.in_ok-numbers.ensures c.units_of.new.blocks.items c.in_ok-units.ensures.longer _ (rw c.deref_mut.ensures.value at c.stop_all.ensures.less.less)

pub returns-clause-stops : goal.returns-clause-stops
returns-clause-stops c =
    let same = c.deref.ensures.value ∙ with_items_is c.args.blocks c.stop_all.new.blocks (omega arith) in
    All-weaker _ _ (stopped-kept _ c.args.numbers.now c.stop_all.ensures.less.numbered _ _ _ (rw same at c.in_ok-places.ensures) c.in_ok-numbers.ensures c.units_of.new.blocks.items c.in_ok-units.ensures.longer) c.args.stops.now c.stop_all.ensures.stops
