use Rattle.std.proofs.Common.{◌-◌, ◌^◌, vec_len}
use Rattle.std.specs.Io.KnownBytes.{Consumes}
use Rattle.normalizer_io.proofs.transfer.read_by.Given as goal

abbrev pub invariant-loop-count : goal.invariant-loop-count
invariant-loop-count g l = record {
  read : Consumes (g.R.Source.bytes_left l.fn.reader) (g.R.Source.bytes_left l.reader) l.bytes.items;
  ahead : (later : _) → g.R.Source.refusal l.reader later → g.R.Source.refusal l.fn.reader later;
}

-- the room that is left in the Vec
abbrev pub decreases-loop-count : goal.decreases-loop-count
decreases-loop-count g l = 2 ^ 64 - vec_len l.bytes
