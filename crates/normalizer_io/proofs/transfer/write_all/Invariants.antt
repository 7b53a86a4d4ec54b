use Rattle.std.proofs.Common.{length, take, ◌-◌, ◌≤◌}
use Rattle.std.specs.Io.KnownBytes.{Appends}
use Rattle.normalizer_io.proofs.transfer.write_all.Given as goal

abbrev pub invariant-loop-written : goal.invariant-loop-written
invariant-loop-written g l = record {
  within : l.written ≤ length l.bytes;
  taken : Appends (g.W.Target.bytes_taken l.fn.writer) (g.W.Target.bytes_taken l.writer) (take l.written l.bytes);
  ahead : (later : _) → g.W.Target.refusal l.writer later → g.W.Target.refusal l.fn.writer later;
}

abbrev pub decreases-loop-written : goal.decreases-loop-written
decreases-loop-written g l = length l.bytes - l.written
