use Rattle.std.proofs.Common.{◌≤◌, length}
use Rattle.normalizer_streams.specs.Streams.{form_by, may_continue, IsRun}
use Rattle.normalizer_streams.specs.inner.Moves.{Moves}
use Rattle.normalizer_streams.specs.inner.Watches.{Watches}
use Rattle.normalizer_streams.proofs.stream.write_form.Given as goal

-- what was written and what is carried make up what was read: a byte a block, at least
abbrev pub invariant-loop : goal.invariant-loop
invariant-loop g l = record {
  moves : Moves (form_by l.normalizer) (g.R.Source.bytes_left l.fn.reader) (g.R.Source.bytes_left l.reader)
      (g.W.Target.bytes_taken l.fn.writer) (g.W.Target.bytes_taken l.writer) l.carried;
  counted : l.counter ≤ length moves.read;
  watches : Watches l.fn.mode l.watch moves.passed;
  run : IsRun (may_continue l.normalizer) l.carried;
  read : (later : _) → g.R.Source.refusal l.reader later → g.R.Source.refusal l.fn.reader later;
  write : (later : _) → g.W.Target.refusal l.writer later → g.W.Target.refusal l.fn.writer later;
}
