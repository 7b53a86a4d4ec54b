use Rattle.std.proofs.Common.{◌≡◌, ap, arith, length, refl, sym, vec_len, ◌∙◌}
use Rattle.std.proofs.lemmas.List.{take_all}
use Rattle.normalizer_tables.specs.inner.Blocks.{blocks_to, numbers_to}
use Rattle.normalizer_tables.specs.Ranges.{words_of}
use Rattle.normalizer_tables.proofs.code_points.BlockLemmas.{length-numbers_to, number-low, numbered_more, IsStored-words_of}
use Rattle.normalizer_tables.proofs.blocks.Blocks.from_ranges.Goals as goal

pub overflow_cast-number : goal.overflow_cast-number
overflow_cast-number c =
    omega (arith, number-low _ _ _ _ _ _ _ c.in_ok-number.ensures.number c.loop-place.invariant.in_blocks)

pub loop-place-init : goal.loop-place-init
unfolding blocks_to numbers_to
loop-place-init c = record {
  within = omega arith;
  left = record { from = record { list = c.requires; ends = λ k d below. omega arith }; words = λ m low. refl };
  in_blocks = c.new-blocks.ensures.items;
  in_order = c.in_ok-numbers.ensures.items;
}

pub loop-place-preserved : goal.loop-place-preserved
loop-place-preserved c =
    let words = words_of c.args.ranges.now in
    let place = c.loop-place.place in
    let within = c.in_ok-number.ensures.within in
    let after = c.in_ok-number.ensures.left in
    let before = c.loop-place.invariant in
    let more = numbered_more c.args.ranges.now c.loop-place.left.now place c.in_ok-number.end c.in_ok-number.number _ _ within.0 within.1 before.left c.in_ok-number.ensures.number before.in_blocks in
    let count : length c.loop-place.numbers.items ≡ place = ap length before.in_order ∙ length-numbers_to words place in
    let long : vec_len c.loop-place.numbers ≡ place = omega (arith, count, c.loop-place.numbers.ok.0) in
    record {
      within = within.1;
      left = record { from = after.from; words = λ m low. after.words m low ∙ before.left.words m (omega arith) };
      in_blocks = more.0;
      in_order = c.in_ok-resize.ensures.items ∙ rw (take_all c.in_ok-number.end c.loop-place.numbers.items (omega arith), before.in_order, long) (sym more.1);
    }

pub invariant_of-result : goal.invariant_of-result
invariant_of-result c = (IsStored-words_of _ _ _ _ c.loop-place.invariant.within c.loop-place-test.false c.loop-place.invariant.in_blocks c.loop-place.invariant.in_order).1

pub returns : goal.returns
returns c = (IsStored-words_of _ _ _ _ c.loop-place.invariant.within c.loop-place-test.false c.loop-place.invariant.in_blocks c.loop-place.invariant.in_order).0
