use Rattle.std.proofs.Common.{◌≡◌, rules, Err, arith}
use Rattle.normalizer_calls.proofs.segments.KeptLemmas.{IsKeptTo-first}
use Rattle.normalizer_calls.proofs.written_forms.PartLemmas.{HasShortRuns-behind, WritesText-parts, WritesText-rest, WroteUpTo-first, not_handed_on}
use Rattle.normalizer_calls.proofs.writing.write_parts.Goals as goal

pub returns-in_err-write_passed-clause-text : goal.returns-in_err-write_passed-clause-text
returns-in_err-write_passed-clause-text g c =
    let is : c.from_residual.result ≡ Err c.in_err-write_passed.field-0.0 = search rules in
    rw is (rw c.in_err-write_passed.was at c.write_passed.ensures.refused)

pub returns-in_err-write_passed-clause-room : goal.returns-in_err-write_passed-clause-room
returns-in_err-write_passed-clause-room g c = λ short.
    let is : c.from_residual.result ≡ Err c.in_err-write_passed.field-0.0 = search rules in
    not_handed_on c.in_err-write_passed.was is c.write_passed.ensures.room

pub returns-then-passed-len-clause-text : goal.returns-then-passed-len-clause-text
returns-then-passed-len-clause-text g c =
    let first = WroteUpTo-first (rw c.in_ok-write_passed.was at c.write_passed.ensures.none) (rw c.in_ok-write_passed.was at c.write_passed.ensures.part) in
    WritesText-parts first (omega (arith, c.len.ensures, c.if-passed-len.true))

pub after-rest-requires : goal.after-rest-requires
after-rest-requires g c = (WroteUpTo-first (rw c.in_ok-write_passed.was at c.write_passed.ensures.none) (rw c.in_ok-write_passed.was at c.write_passed.ensures.part)).boundary

pub returns-clause-text : goal.returns-clause-text
returns-clause-text g c =
    let first = WroteUpTo-first (rw c.in_ok-write_passed.was at c.write_passed.ensures.none) (rw c.in_ok-write_passed.was at c.write_passed.ensures.part) in
    WritesText-rest first c.after-rest.ensures c.write_changed.ensures.text

pub returns-clause-room : goal.returns-clause-room
returns-clause-room g c = λ short.
    let first = WroteUpTo-first (rw c.in_ok-write_passed.was at c.write_passed.ensures.none) (rw c.in_ok-write_passed.was at c.write_passed.ensures.part) in
    c.write_changed.ensures.room (HasShortRuns-behind first c.after-rest.ensures short)

pub write_changed-requires : goal.write_changed-requires
write_changed-requires g c = rw c.after-rest.ensures c.passthrough_end-passed.ensures.1

pub write_passed-requires : goal.write_passed-requires
write_passed-requires g c = IsKeptTo-first _ _ _ _ _ c.passthrough_end-passed.ensures.0
