use Rattle.std.proofs.Common.{[], get_or, arith, refl, rules}
use Rattle.std.proofs.lemmas.List.{get_or_read}
use Rattle.normalizer_tables.specs.Table.{HaveBits, IsNextOther, code_points}
use Rattle.normalizer_tables.proofs.code_points.BlockLemmas.{block_at-number, block_at-looked_up, length-numbers, stored_number-within}
use Rattle.normalizer_tables.proofs.code_points.NextInBlocks.{HasBits, passed-at, HaveBits-to, next-found}
use Rattle.normalizer_tables.proofs.blocks.Blocks.next_other.Goals as goal
use Rattle.normalizer_tables.proofs.blocks.Blocks.next_other.Goals.{then-from-start, else-from-start}

pub index-number-requires : goal.index-number-requires
index-number-requires c = omega (arith, length-numbers _ _ _ c.self.invariant, c.self.inside.numbers.ok.0)

pub index-block-requires : goal.index-block-requires
index-block-requires c = omega (arith, stored_number-within _ _ _ c.self.invariant _ _ c.loop-place-test.true c.index-number.ensures, c.self.inside.blocks.ok.0)

pub loop-place-init : goal.loop-place-init
unfolding HaveBits
loop-place-init c = record { none = λ above n on below. absurd (omega arith); passed = search rules }

pub loop-place-preserved-then-eq : goal.loop-place-preserved-then-eq
loop-place-preserved-then-eq c =
    let is = block_at-number _ _ _ c.self.invariant _ _ c.loop-place-test.true c.index-number.ensures in
    let none = passed-at (λ k. HasBits c.args.mask c.args.bits (get_or c.self.inside.blocks.items k [])) c.loop-place.passed c.index-number.result.now c.if-eq.ensures c.loop-place.invariant.passed in
    record {
      none = λ above. HaveBits-to _ _ _ c.self.view_is _ _ _ _ c.loop-place-test.true _ is above 64 _ (omega arith) (omega arith) (c.loop-place.invariant.none above) (λ j below on. none j below);
      passed = c.loop-place.invariant.passed;
    }

pub returns-then-word-mask : goal.returns-then-word-mask
returns-then-word-mask c = λ above.
    let is = block_at-looked_up _ _ _ c.self.invariant _ _ c.loop-place-test.true c.index-number.ensures _ c.index-block.ensures in
    next-found _ _ _ c.self.view_is _ _ _ _ c.loop-place-test.true _ is above _ _ c.loop-offset-test.true refl (omega arith) (c.loop-place.invariant.none above) c.loop-offset.invariant
    c.if-word-mask.true

pub loop-place-preserved : goal.loop-place-preserved
loop-place-preserved c =
    let is = block_at-looked_up _ _ _ c.self.invariant _ _ c.loop-place-test.true c.index-number.ensures _ c.index-block.ensures in
    record {
      none = λ above. HaveBits-to _ _ _ c.self.view_is _ _ _ _ c.loop-place-test.true _ is above 64 _ (omega arith) (omega arith) (c.loop-place.invariant.none above)
          (λ j below on. c.loop-offset.invariant j (omega arith) on);
      passed = elim c.if-from-start.branch [
        | then-from-start w ↦
            let same = get_or_read _ _ _ (stored_number-within _ _ _ c.self.invariant _ _ c.loop-place-test.true c.index-number.ensures) c.index-block.ensures [] in
            rw w.passed-is (λ j below. rw (← same) (c.loop-offset.invariant j (omega arith) (omega (arith, w.if-from-start.true))))
        | else-from-start w ↦ rw w.passed-is c.loop-place.invariant.passed
      ];
    }

pub returns : goal.returns
unfolding HaveBits IsNextOther code_points
returns c = λ above n on below. c.loop-place.invariant.none above n on (omega arith)
