use Rattle.std.proofs.Common.{◌≡◌, arith, length, map, get_or, sym, ◌∙◌, ap, below_more}
use Rattle.std.proofs.lemmas.List.{get_or_read, length-map}
use Rattle.std.proofs.lemmas.Result.{IfOk-weaker}
use Rattle.std.proofs.lemmas.List.FromFn.{map-range_with_len_more}
use Rattle.normalizer_tables.specs.Table.{code_points}
use Rattle.normalizer_tables.proofs.lists.PlaceTables.{place_range, place_ranges, place-le, key_read, rising_keys, IsRangeList-places, ArePlaces-words}
use Rattle.normalizer_tables.proofs.places.places_of.Goals as goal

pub overflow_add-place : goal.overflow_add-place
overflow_add-place g c =
    let key = g.T.HasCharacter.character in
    let xs = c.args.items.now in
    let i = c.loop-item.item-index in
    let x = c.item-item.result in
    let here = key_read key xs i x c.loop-item-test.true (get_or_read xs _ _ c.loop-item-test.true c.item-item.is x) ∙ sym c.character-number.ensures in
    omega (arith, c.loop-item.invariant.counted, here, place-le (map key xs) (rising_keys key xs c.requires) i (omega (arith, length-map xs key)))

pub loop-item-preserved : goal.loop-item-preserved
unfolding code_points
loop-item-preserved g c =
    let key = g.T.HasCharacter.character in
    let xs = c.args.items.now in
    let i = c.loop-item.item-index in
    let x = c.item-item.result in
    let here : c.character-number.result ≡ get_or (map key xs) i 0 = sym (key_read key xs i x c.loop-item-test.true (get_or_read xs _ _ c.loop-item-test.true c.item-item.is x) ∙ sym c.character-number.ensures) in
    record {
      counted = omega (arith, c.loop-item.invariant.counted);
      ranges = rw (c.in_ok-push.ensures.items, c.loop-item.invariant.ranges, c.loop-item.invariant.counted, here) (sym (map-range_with_len_more (place_range (map key xs)) 0 i i (omega arith)));
      low = below_more _ _ c.loop-item.invariant.low (omega (arith, here));
    }

pub from_ranges-requires : goal.from_ranges-requires
from_ranges-requires g c =
    let key = g.T.HasCharacter.character in
    let xs = c.args.items.now in
    let long = length-map xs key in
    let end : c.loop-item.item-index ≡ length (map key xs) = omega (arith, long) in
    let all = c.deref.ensures.value ∙ c.loop-item.invariant.ranges ∙ ap (place_ranges (map key xs)) end in
    rw all (IsRangeList-places (map key xs) (rising_keys key xs c.requires) (λ k below. c.loop-item.invariant.low k (omega arith)))

pub returns : goal.returns
returns g c =
    let key = g.T.HasCharacter.character in
    let xs = c.args.items.now in
    let long = length-map xs key in
    let end : c.loop-item.item-index ≡ length (map key xs) = omega (arith, long) in
    let all = c.deref.ensures.value ∙ c.loop-item.invariant.ranges ∙ ap (place_ranges (map key xs)) end in
    IfOk-weaker c.from_ranges.result _ _ (λ words made. ArePlaces-words (map key xs) words c.deref.result.now made all) c.from_ranges.ensures
