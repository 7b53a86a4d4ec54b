use Rattle.std.proofs.Common.{◌^◌, ◌-◌, arith, inr, subst, sym}
use Rattle.icu_normalizer.specs.AnyNormalizers.{kind_by, made_by, reading_of}
use Rattle.normalizer_streams.specs.Mismatches.{IsComparison}
use Rattle.normalizer_streams.proofs.ComparisonLemmas.{IsComparison-ended, IsComparison-some, IsReadTo-block, IsReadTo-more, IsReadTo-none}
use Rattle.normalizer_streams.proofs.MoveLemmas.{read_is_within}
use Rattle.normalizer_streams.proofs.mismatch.first_mismatch.Goals as goal

pub loop-init : goal.loop-init
loop-init g c = record {
  reads = IsReadTo-none (made_by c.args.normalizer.now) _ c.new-carried.result c.new-cursor.result c.new-carried.ensures c.new-cursor.ensures;
  counted = omega arith;
  read = λ later h. h;
}

pub returns-then-not-branch-clause-compared : goal.returns-then-not-branch-clause-compared
returns-then-not-branch-clause-compared g c =
    let n = c.args.normalizer.now in
    let block = c.in_ok-read_block.ensures.carries in
    let reads = IsReadTo-more (made_by n) _ _ _ _ _ c.loop.cursor _ c.loop.invariant.reads block in
    let piece = rw c.bytes.ensures at c.in_ok-last.ensures.compared in
    subst (IsComparison c.args.mode (reading_of n) (kind_by n) _) (sym c.unwrap_or.ensures)
    (IsComparison-ended (made_by n) c.args.mode _ _ c.read_block.new.self c.loop.cursor c.compare_piece.new.cursor reads (block.end c.if-not-branch.true) c.in_ok-last.last (piece reads.passed reads.agrees.at))

pub returns-in-Some-clause-compared : goal.returns-in-Some-clause-compared
returns-in-Some-clause-compared g c =
    let m = made_by c.args.normalizer.now in
    let reads = IsReadTo-more m _ _ _ _ _ c.loop.cursor _ c.loop.invariant.reads c.in_ok-read_block.ensures.carries in
    let found = rw c.in-Some.is at c.in_ok-found.ensures.compared in
    IsComparison-some m c.args.mode _ _ c.read_block.new.self c.loop.cursor reads _ (found reads.passed reads.agrees)

pub loop-preserved : goal.loop-preserved
loop-preserved g c =
    let m = made_by c.args.normalizer.now in
    let at = c.loop.invariant in
    let block = c.in_ok-read_block.ensures.carries in
    let found = rw c.in_default.is at c.in_ok-found.ensures.compared in
    let next = IsReadTo-block m _ _ _ _ _ _ _ c.loop.counter c.loop.cursor c.compare_settled.new.cursor at.reads at.counted block c.if-not-branch.false found in
    record { reads = next.0; counted = next.1; read = λ later h. at.read later (c.in_ok-read_block.ensures.ahead later h) }

pub returns-clause-read : goal.returns-clause-read
returns-clause-read g c = λ _. inr (read_is_within _ _ c.loop.invariant.reads.read (2 ^ 64 - 1) c.loop.invariant.reads.consumed (omega (arith, c.loop.invariant.counted)))
