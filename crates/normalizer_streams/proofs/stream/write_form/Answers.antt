use Rattle.std.proofs.Common.{◌≡◌, Err, length, ap, rules, arith, inr, refl, subst, sym, ⊎_elim, ◌^◌, ◌-◌}
use Rattle.std.proofs.KnownBytes.{Keeps-refl}
use Rattle.std.proofs.Math.Seq.{take-append_seam}
use Rattle.normalizer_streams.specs.Streams.{form_by, may_continue, IsFormCutOff}
use Rattle.normalizer_streams.proofs.MoveLemmas.{rest_of, IsCut-none, IsFormCutOff-cut, IsFormCutOff-last, IsFormWritten-ended, IsFormWritten-stopped, IsWrittenToRun-refused, Moves-block, Moves-none, Moves-read, OnErr-always, read_is_within}
use Rattle.normalizer_streams.proofs.PassLemmas.{Joins-carried}
use Rattle.normalizer_streams.proofs.stream.write_form.Goals as goal

pub loop-init : goal.loop-init
loop-init g c = record {
  moves = Moves-none c.args.mode (form_by c.args.normalizer.now) _ _ c.new-carried.result c.new-carried.ensures;
  counted = omega arith;
  watches = c.new-watch.ensures;
  run = λ place positive i. absurd (omega (arith, i.within, ap length c.new-carried.ensures));
  read = λ later h. h;
  write = λ later h. h;
}

pub returns-in_err-read_block-clause-front : goal.returns-in_err-read_block-clause-front
returns-in_err-read_block-clause-front g c =
    let form = form_by c.args.normalizer.now in
    let at = c.loop.invariant in
    OnErr-always _ (IsFormCutOff-cut c.args.mode form _ _ _ _ _ c.loop.carried at.moves
    (IsCut-none c.args.mode form c.args.mode refl c.loop.watch _ at.moves.passed at.moves.written c.loop.carried _ at.moves.is_passed at.watches))

pub returns-in_err-stop-clause-front : goal.returns-in_err-stop-clause-front
returns-in_err-stop-clause-front g c =
    let mode = c.args.mode in
    let form = form_by c.args.normalizer.now in
    let at = c.loop.invariant in
    let block = c.in_ok-read_block.ensures.carries in
    let carried = c.read_block.new.self in
    let left = g.R.Source.bytes_left c.args.reader.now in
    let before = g.W.Target.bytes_taken c.args.writer.now in
    let after = g.W.Target.bytes_taken c.write_piece.new.writer in
    let moves = Moves-read mode form _ _ _ _ _ _ _ _ at.moves block in
    let cut : IsFormCutOff mode form left before after = ⊎_elim
    (λ refused.
    let piece = rw c.bytes.ensures at (c.in_err-stop.ensures.front (ap (λ e. Err e) refused)) in
    IsFormCutOff-last mode form _ _ _ _ _ carried piece.1 moves (block.end c.if-not-branch.true) piece.0
    (piece.2 mode at.moves.passed (Joins-carried form at.moves.passed at.moves.written carried moves.is_passed) at.watches) piece.3)
    (λ refused. subst (λ w. IsFormCutOff mode form left before (g.W.Target.bytes_taken w)) (sym (c.in_err-stop.ensures.memory (ap (λ e. Err e) refused)))
    (IsFormCutOff-cut mode form _ _ _ _ _ carried moves
    (IsCut-none mode form mode refl c.loop.watch _ at.moves.passed at.moves.written carried _ moves.is_passed at.watches)))
    c.in_err-stop.ensures.errors in
    OnErr-always _ cut

pub returns-then-not-branch-clause-form : goal.returns-then-not-branch-clause-form
returns-then-not-branch-clause-form g c =
    let mode = c.args.mode in
    let form = form_by c.args.normalizer.now in
    let at = c.loop.invariant in
    let block = c.in_ok-read_block.ensures.carries in
    let carried = c.read_block.new.self in
    let moves = Moves-read mode form _ _ _ _ _ _ _ _ at.moves block in
    let noted = rw c.bytes.ensures at c.in_ok-stop.ensures.noted in
    IsFormWritten-ended mode form _ _ _ _ _ carried c.write_piece.new.watch moves (block.end c.if-not-branch.true) c.in_ok-stop.stop c.ending.result c.ending.ensures.whole c.ending.ensures.stopped
    (noted mode at.moves.passed (Joins-carried form at.moves.passed at.moves.written carried moves.is_passed) at.watches) (rw c.bytes.ensures at c.in_ok-stop.ensures.form)

pub returns-in_err-stop-2-clause-front : goal.returns-in_err-stop-2-clause-front
returns-in_err-stop-2-clause-front g c =
    let form = form_by c.args.normalizer.now in
    let at = c.loop.invariant in
    let moves = Moves-read c.args.mode form _ _ _ _ _ _ _ _ at.moves c.in_ok-read_block.ensures.carries in
    OnErr-always _ (IsFormCutOff-cut c.args.mode form _ _ _ _ _ c.read_block.new.self moves
    (c.in_err-stop-2.ensures.front c.args.mode at.moves.passed at.moves.written (rest_of (g.R.Source.bytes_left c.read_block.new.reader)) moves.is_passed at.watches))

pub returns-in-Some-clause-form : goal.returns-in-Some-clause-form
returns-in-Some-clause-form g c =
    let form = form_by c.args.normalizer.now in
    let at = c.loop.invariant in
    let moves = Moves-read c.args.mode form _ _ _ _ _ _ _ _ at.moves c.in_ok-read_block.ensures.carries in
    let moved = rw c.in-Some.is at c.in_ok-stop-2.ensures.moved in
    IsFormWritten-stopped c.args.mode form _ _ _ _ _ c.read_block.new.self c.in-Some.stop moves (moved c.args.mode at.moves.passed at.moves.written moves.is_passed at.watches)

pub loop-preserved : goal.loop-preserved
loop-preserved g c =
    let form = form_by c.args.normalizer.now in
    let at = c.loop.invariant in
    let block = c.in_ok-read_block.ensures.carries in
    let size : length c.bytes-searched.result.now ≡ length c.loop.carried = ap length c.bytes-searched.ensures in
    let moves = Moves-read c.args.mode form _ _ _ _ _ _ _ _ at.moves block in
    let moved = rw c.in_default.is at c.in_ok-stop-2.ensures.moved in
    let next = Moves-block c.args.mode form _ _ _ _ _ _ _ _ _ _ c.loop.counter c.write_settled.new.watch at.moves at.counted block c.if-not-branch.false
    (moved c.args.mode at.moves.passed at.moves.written moves.is_passed at.watches) in
    record {
      moves = next.0;
      counted = next.1;
      watches = next.2;
      run = c.in_ok-stop-2.ensures.run (rw (block.appended, size, take-append_seam c.loop.carried block.more) at.run);
      read = λ later h. at.read later (c.in_ok-read_block.ensures.ahead later h);
      write = λ later h. at.write later (c.in_ok-stop-2.ensures.ahead later h);
    }

pub returns-clause-front : goal.returns-clause-front
returns-clause-front g c =
    let form = form_by c.args.normalizer.now in
    let at = c.loop.invariant in
    IsFormCutOff-cut c.args.mode form _ _ _ _ _ c.loop.carried at.moves
    (IsCut-none c.args.mode form c.args.mode refl c.loop.watch _ at.moves.passed at.moves.written c.loop.carried _ at.moves.is_passed at.watches)

pub returns-clause-read : goal.returns-clause-read
returns-clause-read g c = λ _. inr (read_is_within _ _ c.loop.invariant.moves.read (2 ^ 64 - 1) c.loop.invariant.moves.consumed (omega arith))

pub returns-in_err-read_block-clause-so_far : goal.returns-in_err-read_block-clause-so_far
returns-in_err-read_block-clause-so_far g c = λ refused.
    IsWrittenToRun-refused c.args.mode (form_by c.args.normalizer.now) (may_continue c.args.normalizer.now) _ _ _ _ _ _ c.loop.invariant.moves c.loop.invariant.run
    (c.in_err-read_block.ensures.unread (search rules))

pub returns-clause-so_far : goal.returns-clause-so_far
returns-clause-so_far g c = λ _.
    IsWrittenToRun-refused c.args.mode (form_by c.args.normalizer.now) (may_continue c.args.normalizer.now) _ _ _ _ _ _ c.loop.invariant.moves c.loop.invariant.run (Keeps-refl _)
