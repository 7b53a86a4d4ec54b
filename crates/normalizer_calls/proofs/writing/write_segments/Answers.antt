use Rattle.std.proofs.Common.{◌≡◌, rules, Err, arith, length-drop}
use Rattle.normalizer_calls.proofs.written_forms.MemberLemmas.{first-drop}
use Rattle.normalizer_calls.proofs.segments.KeptLemmas.{IsKeptTo-first}
use Rattle.normalizer_calls.proofs.written_forms.PartLemmas.{HasShortRuns-behind, WritesText-behind, WritesText-parts, WroteUpTo-none, WroteUpTo-le, WroteUpTo-maybe, WroteUpTo-more, not_handed_on}
use Rattle.normalizer_calls.proofs.writing.write_segments.Goals as goal

pub loop-position-init : goal.loop-position-init
loop-position-init g c = (WroteUpTo-none, c.requires)

pub write_segment-requires : goal.write_segment-requires
write_segment-requires g c = record {
  some = rw c.after-rest.ensures (omega (arith, c.len.ensures, length-drop c.loop-position.position (g.U.Units.units c.args.units)));
  first = rw c.after-rest.ensures c.loop-position.invariant.1;
}

pub returns-in_err-segment-clause-text : goal.returns-in_err-segment-clause-text
returns-in_err-segment-clause-text g c =
    let is : c.from_residual.result ≡ Err c.in_err-segment.field-0.0 = search rules in
    rw is (WritesText-behind c.loop-position.invariant.0 c.after-rest.ensures (rw c.in_err-segment.was at c.write_segment.ensures.written.refused))

pub returns-in_err-segment-clause-room : goal.returns-in_err-segment-clause-room
returns-in_err-segment-clause-room g c = λ short.
    let is : c.from_residual.result ≡ Err c.in_err-segment.field-0.0 = search rules in
    let short_behind = HasShortRuns-behind c.loop-position.invariant.0 c.after-rest.ensures short in
    not_handed_on c.in_err-segment.was is (c.write_segment.ensures.room short_behind)

pub overflow_add-position : goal.overflow_add-position
overflow_add-position g c =
    let so_far = WroteUpTo-more c.loop-position.invariant.0 c.after-rest.ensures (rw c.in_ok-segment.was at c.write_segment.ensures.written.part) in
    let most = WroteUpTo-le so_far in
    omega (arith, c.len.ensures)

pub after-following-requires : goal.after-following-requires
after-following-requires g c =
    let so_far = WroteUpTo-more c.loop-position.invariant.0 c.after-rest.ensures (rw c.in_ok-segment.was at c.write_segment.ensures.written.part) in
    so_far.boundary

pub returns-in_err-write_passed-clause-text : goal.returns-in_err-write_passed-clause-text
returns-in_err-write_passed-clause-text g c =
    let so_far = WroteUpTo-more c.loop-position.invariant.0 c.after-rest.ensures (rw c.in_ok-segment.was at c.write_segment.ensures.written.part) in
    let is : c.from_residual-in_err-write_passed.result ≡ Err c.in_err-write_passed.field-0.0 = search rules in
    rw is (WritesText-behind so_far c.after-following.ensures (rw c.in_err-write_passed.was at c.write_passed.ensures.refused))

pub returns-in_err-write_passed-clause-room : goal.returns-in_err-write_passed-clause-room
returns-in_err-write_passed-clause-room g c = λ short.
    let is : c.from_residual-in_err-write_passed.result ≡ Err c.in_err-write_passed.field-0.0 = search rules in
    not_handed_on c.in_err-write_passed.was is c.write_passed.ensures.room

pub overflow_add-position-then-segment : goal.overflow_add-position-then-segment
overflow_add-position-then-segment g c =
    let so_far = WroteUpTo-more c.loop-position.invariant.0 c.after-rest.ensures (rw c.in_ok-segment.was at c.write_segment.ensures.written.part) in
    let run = WroteUpTo-maybe so_far c.after-following.ensures
    (rw c.in_ok-write_passed.was at c.write_passed.ensures.none) (rw c.in_ok-write_passed.was at c.write_passed.ensures.part) in
    let most = WroteUpTo-le run in
    omega (arith, c.len.ensures)

pub loop-position-preserved-then-segment : goal.loop-position-preserved-then-segment
loop-position-preserved-then-segment g c =
    let so_far = WroteUpTo-more c.loop-position.invariant.0 c.after-rest.ensures (rw c.in_ok-segment.was at c.write_segment.ensures.written.part) in (
      WroteUpTo-maybe so_far c.after-following.ensures
          (rw c.in_ok-write_passed.was at c.write_passed.ensures.none) (rw c.in_ok-write_passed.was at c.write_passed.ensures.part),
      first-drop _ _ _ _ _ _ c.after-following.ensures c.passthrough_end-passed.ensures.1,
    )

pub loop-position-preserved : goal.loop-position-preserved
loop-position-preserved g c = (
  WroteUpTo-more c.loop-position.invariant.0 c.after-rest.ensures (rw c.in_ok-segment.was at c.write_segment.ensures.written.part),
  first-drop _ _ _ _ _ _ c.after-rest.ensures (rw c.in_ok-segment.was at c.write_segment.ensures.written.segment).next,
)

pub loop-position-smaller : goal.loop-position-smaller
loop-position-smaller g c =
    let some = (rw c.in_ok-segment.was at c.write_segment.ensures.written.part).part.some in
    omega arith

pub returns-clause-text : goal.returns-clause-text
returns-clause-text g c =
    WritesText-parts c.loop-position.invariant.0 (omega (arith, c.len.ensures))

pub write_passed-requires : goal.write_passed-requires
write_passed-requires g c = IsKeptTo-first _ _ _ _ _ c.passthrough_end-passed.ensures.0
