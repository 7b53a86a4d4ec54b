use Rattle.std.proofs.Common.{◌≡◌, ◌++◌, take, arith}
use Rattle.std.proofs.lemmas.Grind.{common_steps}
use Rattle.std.proofs.KnownBytes.{Consumes-trans}
use Rattle.normalizer_io.proofs.transfer.read_by.Goals as goal

pub loop-count-preserved : goal.loop-count-preserved
loop-count-preserved g c =
    let grown : c.extend_from_slice.new.self.items ≡ c.loop-count.bytes.items ++ take c.in-Ok.count c.read.new.buffer = grind (arith, common_steps, c.in_ok-extend_from_slice.ensures.items) in
    record {
      read = rw grown (Consumes-trans _ _ _ _ _ c.loop-count.invariant.read c.in-Ok.ensures.bytes.0);
      ahead = λ later h. c.loop-count.invariant.ahead later (c.in-Ok.ensures.ahead later h);
    }
