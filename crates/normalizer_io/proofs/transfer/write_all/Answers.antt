use Rattle.std.proofs.Common.{◌≡◌, ◌+◌, ◌-◌, ◌++◌, length, take, drop, arith}
use Rattle.std.proofs.lemmas.Grind.{common_steps}
use Rattle.std.proofs.lemmas.List.{take_rest}
use Rattle.std.proofs.Math.Seq.{take-add}
use Rattle.std.proofs.KnownBytes.{Appends-trans}
use Rattle.normalizer_io.proofs.transfer.write_all.Goals as goal

pub loop-written-preserved : goal.loop-written-preserved
loop-written-preserved g c =
    let w = c.loop-written.written in
    let bytes = c.args.bytes.now in
    let n = c.in-Ok.count in
    let seam : take w bytes ++ take n (take (length bytes - w) (drop w bytes)) ≡ take (w + n) bytes = rw (take_rest bytes w, take-add w n bytes) in
    record {
      within = grind (arith, common_steps, c.in-Ok.ensures.count);
      taken = rw (← seam) (Appends-trans _ _ _ _ _ c.loop-written.invariant.taken c.in-Ok.ensures.bytes);
      ahead = λ later h. c.loop-written.invariant.ahead later (c.in-Ok.ensures.ahead later h);
    }
