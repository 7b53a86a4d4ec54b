use Rattle.std.proofs.Common.{◌≡◌, rules, subst}
use Rattle.normalizer_io.specs.Transfer.{AppendsFront}
use Rattle.normalizer_streams.specs.Streams.{form_by}
use Rattle.normalizer_streams.specs.inner.Watches.{text_in}
use Rattle.normalizer_streams.proofs.stream.write_piece.Goals as goal

pub returns-in_err-write_all-clause-front : goal.returns-in_err-write_all-clause-front
returns-in_err-write_all-clause-front g c = λ refused.
    let form : c.as_bytes.result.now ≡ form_by c.args.normalizer.now (text_in c.args.piece.now c.note-stop.result) = search rules in
    (c.note-stop.result, c.note-stop.new.self, c.note-stop.ensures.noted, subst (AppendsFront (g.W.Target.bytes_taken c.args.writer.now) _) form c.in_err-write_all.ensures.front)
