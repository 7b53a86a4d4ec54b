use Rattle.std.proofs.Common.{◌-◌, arith, inr}
use Rattle.normalizer_streams.proofs.LineLemmas.{EndsLine-at}
use Rattle.normalizer_streams.proofs.lines.end_of_piece.Goals as goal

pub returns-then-bytes-end-eq10-clause-lines : goal.returns-then-bytes-end-eq10-clause-lines
returns-then-bytes-end-eq10-clause-lines c = λ _. inr (EndsLine-at c.args.bytes.now c.loop-end.end (c.loop-end.end - 1) (omega arith) (omega arith) c.if-bytes-end-eq10.true)
