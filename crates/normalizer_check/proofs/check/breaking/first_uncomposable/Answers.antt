use Rattle.std.proofs.Common.{◌<◌, ◌≤◌, arith, length, sym, ◌∙◌}
use Rattle.std.proofs.lemmas.Bool.{true≢false}
use Rattle.normalizer_check.proofs.composites.MemberLemmas.{all_hold, both_hold, first_fails, result_fails}
use Rattle.normalizer_check.proofs.check.breaking.first_uncomposable.Goals as goal

pub returns-then-not-is_composable : goal.returns-then-not-is_composable
returns-then-not-is_composable c =
    let lt : c.loop-place.place < length c.args.pairs.now = omega (arith, c.pair_count-place-end.ensures) in
    first_fails c.args.data.now c.args.pairs.now c.loop-place.place c.pair_at-first.result lt c.pair_at-first.ensures
    c.loop-place.invariant (λ holds. true≢false (sym (c.is_composable.ensures.1 holds) ∙ c.if-not-is_composable.true))

pub returns-then-not-is_composable-2 : goal.returns-then-not-is_composable-2
returns-then-not-is_composable-2 c =
    let lt : c.loop-place.place < length c.args.pairs.now = omega (arith, c.pair_count-place-end.ensures) in
    result_fails c.args.data.now c.args.pairs.now c.loop-place.place c.pair_at-first.result lt c.pair_at-first.ensures
    c.loop-place.invariant (c.is_composable.ensures.0 c.if-not-is_composable.false)
    (λ holds. true≢false (sym (c.is_composable-in-loop-place.ensures.1 holds) ∙ c.if-not-is_composable-2.true))

pub loop-place-preserved : goal.loop-place-preserved
loop-place-preserved c =
    let lt : c.loop-place.place < length c.args.pairs.now = omega (arith, c.pair_count-place-end.ensures) in
    both_hold c.args.data.now c.args.pairs.now c.loop-place.place c.pair_at-first.result lt c.pair_at-first.ensures
    c.loop-place.invariant (c.is_composable.ensures.0 c.if-not-is_composable.false)
    (c.is_composable-in-loop-place.ensures.0 c.if-not-is_composable-2.false)

pub returns : goal.returns
returns c =
    let le : length c.args.pairs.now ≤ c.loop-place.place = omega (arith, c.pair_count-place-end.ensures) in
    all_hold c.args.data.now c.args.pairs.now c.loop-place.place le c.loop-place.invariant
