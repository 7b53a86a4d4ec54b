use Rattle.std.proofs.Common.{◌≤◌, length}
use Rattle.normalizer_streams.specs.inner.LineMoves.{MovesLines}
use Rattle.normalizer_streams.proofs.lines.write_replies.Given as goal

-- what was replied to and what is carried make up what was read: a byte a block, at least
abbrev pub invariant-loop : goal.invariant-loop
invariant-loop g l = record {
  moves : MovesLines l.fn.mode (g.T.LineTask.reply l.task) (g.R.Source.bytes_left l.fn.reader) (g.R.Source.bytes_left l.reader)
      (g.W.Target.bytes_taken l.fn.writer) (g.W.Target.bytes_taken l.writer) l.carried l.progress;
  counted : l.counter ≤ length moves.read;
  read : (later : _) → g.R.Source.refusal l.reader later → g.R.Source.refusal l.fn.reader later;
  write : (later : _) → g.W.Target.refusal l.writer later → g.W.Target.refusal l.fn.writer later;
}
