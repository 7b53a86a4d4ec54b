use Rattle.std.proofs.Common.{Err, length, length-append, length-take, ap, arith, inr, rules, subst, sym, ⊎_elim, ◌^◌, ◌-◌, take}
use Rattle.std.proofs.lemmas.Bool.{not-false}
use Rattle.normalizer_streams.specs.inner.LineMoves.{IsPieceReplied}
use Rattle.normalizer_streams.specs.Streams.{IsFormCutOff}
use Rattle.normalizer_streams.proofs.LineLemmas.{whole_piece, whole_reply, CutOff-either, CutOff-now, IsReplied-none, Joins-replied, MovesLines-block, MovesLines-none, MovesLines-read, Written-either}
use Rattle.normalizer_streams.proofs.MoveLemmas.{OnErr-always, read_is_within}
use Rattle.normalizer_streams.proofs.lines.write_replies.Goals as goal

pub loop-init : goal.loop-init
loop-init g c =
    let task = c.args.task.now in
    let silent = c.reply_is_divided.ensures.silent in
    let divided = c.reply_is_divided.ensures.divided in
    let none = IsReplied-none c.args.mode (g.T.LineTask.reply task) silent divided c.new-progress.result c.new-progress.ensures.lines c.new-progress.ensures.silent
    (c.new-progress.ensures.watch) in
    record {
      moves = MovesLines-none c.args.mode (g.T.LineTask.reply task) silent divided _ _ c.new-carried.result c.new-progress.result c.new-carried.ensures none;
      counted = omega arith;
      read = λ later h. h;
      write = λ later h. h;
    }

pub returns-in_err-is_last-clause-front : goal.returns-in_err-is_last-clause-front
returns-in_err-is_last-clause-front g c =
    let task = c.args.task.now in
    OnErr-always _ (CutOff-now c.args.mode (g.T.LineTask.reply task) (c.reply_is_divided.ensures.silent) (c.reply_is_divided.ensures.divided) _ _ _ _ (g.W.Target.bytes_taken c.loop.writer)
    c.loop.carried c.loop.progress c.loop.invariant.moves)

pub returns-clause-front : goal.returns-clause-front
returns-clause-front g c =
    let task = c.args.task.now in
    CutOff-now c.args.mode (g.T.LineTask.reply task) (c.reply_is_divided.ensures.silent) (c.reply_is_divided.ensures.divided) _ _ _ _ (g.W.Target.bytes_taken c.loop.writer)
    c.loop.carried c.loop.progress c.loop.invariant.moves

pub returns-clause-read : goal.returns-clause-read
returns-clause-read g c = λ _. inr (read_is_within _ _ c.loop.invariant.moves.read (2 ^ 64 - 1) c.loop.invariant.moves.consumed (omega (arith, c.loop.invariant.counted)))

pub returns-in_err-stop-clause-front : goal.returns-in_err-stop-clause-front
returns-in_err-stop-clause-front g c =
    let mode = c.args.mode in
    let task = c.args.task.now in
    let reply = g.T.LineTask.reply task in
    let silent = c.reply_is_divided.ensures.silent in
    let divided = c.reply_is_divided.ensures.divided in
    let at = c.loop.invariant in
    let some = c.in_ok-is_last.field-0 in
    let block = c.in_ok-is_last.ensures.carries in
    let bytes = c.read_block.new.self in
    let left = g.R.Source.bytes_left c.args.reader.now in
    let before = g.W.Target.bytes_taken c.args.writer.now in
    let moves = MovesLines-read mode reply silent divided _ _ _ _ _ c.loop.carried bytes some c.loop.progress at.moves block in
    let front = rw c.bytes-bytes.ensures at c.in_err-stop.ensures.front in
    let last = rw c.bytes-bytes.ensures at c.end_of_piece-end.ensures.last in
    let lines = rw c.bytes-bytes.ensures at c.end_of_piece-end.ensures.lines in
    let cut : IsFormCutOff mode (whole_reply mode reply silent divided) left before (g.W.Target.bytes_taken c.reply_to_piece.new.writer) = ⊎_elim
    (λ refused. CutOff-either mode reply silent divided _ _ _ _ _ bytes c.loop.progress moves some c.end_of_piece-end.result block.end last lines
    (front (ap (λ e. Err e) refused) mode moves.passed (Joins-replied mode reply silent divided c.loop.progress moves.passed moves.written moves.replied _) moves.replied.watches))
    (λ same. subst (λ w. IsFormCutOff mode (whole_reply mode reply silent divided) left before (g.W.Target.bytes_taken w)) (sym same)
    (CutOff-now mode reply silent divided _ _ _ _ (g.W.Target.bytes_taken c.loop.writer) c.loop.carried c.loop.progress at.moves))
    c.in_err-stop.ensures.unwritten in
    OnErr-always _ cut

pub returns-in_err-stop-clause-read : goal.returns-in_err-stop-clause-read
returns-in_err-stop-clause-read g c = λ refused.
    let task = c.args.task.now in
    let reply = g.T.LineTask.reply task in
    let bytes = c.read_block.new.self in
    let moves = MovesLines-read c.args.mode reply (c.reply_is_divided.ensures.silent) (c.reply_is_divided.ensures.divided) _ _ _ _ _ c.loop.carried bytes c.in_ok-is_last.field-0 c.loop.progress
    c.loop.invariant.moves c.in_ok-is_last.ensures.carries in
    let many = (rw c.bytes-bytes.ensures at c.in_err-stop.ensures.read) (search rules) in
    inr (read_is_within _ _ moves.read (2 ^ 64 - 1) moves.consumed
    (omega (arith, many, moves.replied.fewer, ap length moves.parts, length-append moves.passed bytes, length-take c.end_of_piece-end.result bytes)))

pub returns-in-Some-clause-reply : goal.returns-in-Some-clause-reply
returns-in-Some-clause-reply g c =
    let mode = c.args.mode in
    let task = c.args.task.now in
    let reply = g.T.LineTask.reply task in
    let silent = c.reply_is_divided.ensures.silent in
    let divided = c.reply_is_divided.ensures.divided in
    let some = c.in_ok-is_last.field-0 in
    let block = c.in_ok-is_last.ensures.carries in
    let bytes = c.read_block.new.self in
    let moves = MovesLines-read mode reply silent divided _ _ _ _ _ c.loop.carried bytes some c.loop.progress c.loop.invariant.moves block in
    let replied = rw c.bytes-bytes.ensures at c.in_ok-stop.ensures.replied in
    let last = rw c.bytes-bytes.ensures at c.end_of_piece-end.ensures.last in
    let lines = rw c.bytes-bytes.ensures at c.end_of_piece-end.ensures.lines in
    Written-either mode reply silent divided _ _ _ _ _ bytes c.loop.progress moves some c.end_of_piece-end.result block.end last lines
    c.reply_to_piece.new.progress c.reply_to_piece.new.output.items c.in_ok-stop.ensures.written c.in_ok-stop.stop c.in-Some.replied
    (replied mode moves.passed moves.written (Joins-replied mode reply silent divided c.loop.progress moves.passed moves.written moves.replied _) moves.replied.watches moves.replied.silent)
    c.in-Some.ensures.whole c.in-Some.ensures.stopped c.in-Some.ensures.silent

pub loop-preserved : goal.loop-preserved
loop-preserved g c =
    let mode = c.args.mode in
    let task = c.args.task.now in
    let reply = g.T.LineTask.reply task in
    let silent = c.reply_is_divided.ensures.silent in
    let divided = c.reply_is_divided.ensures.divided in
    let at = c.loop.invariant in
    let some = c.in_ok-is_last.field-0 in
    let block = c.in_ok-is_last.ensures.carries in
    let bytes = c.read_block.new.self in
    let end = c.end_of_piece-end.result in
    let moves = MovesLines-read mode reply silent divided _ _ _ _ _ c.loop.carried bytes some c.loop.progress at.moves block in
    let replied = rw c.bytes-bytes.ensures at c.in_ok-stop.ensures.replied in
    let lines = rw c.bytes-bytes.ensures at c.end_of_piece-end.ensures.lines in
    let output = c.reply_to_piece.new.output.items in
    let progress = c.reply_to_piece.new.progress in
    let piece = subst (λ stop. IsPieceReplied mode reply c.loop.progress progress moves.passed moves.written (take end bytes) output stop) c.in_default.ensures.none.1
    (replied mode moves.passed moves.written (Joins-replied mode reply silent divided c.loop.progress moves.passed moves.written moves.replied _) moves.replied.watches moves.replied.silent) in
    let next = MovesLines-block mode reply silent divided _ _ _ _ _ _ c.loop.carried bytes c.remove_front.new.self c.loop.progress progress some c.loop.counter at.moves at.counted block
    (not-false _ c.in_default.ensures.none.0) end output (whole_piece mode reply silent divided bytes end (lines c.in_default.ensures.none.0)) c.remove_front.ensures
    c.in_ok-stop.ensures.written piece in
    record {
      moves = next.0;
      counted = next.1;
      read = λ later h. at.read later (c.in_ok-is_last.ensures.ahead later h);
      write = λ later h. at.write later (c.in_ok-stop.ensures.ahead later h);
    }
