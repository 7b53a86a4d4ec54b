use Rattle.std.proofs.Common.{length, ap, arith, ◌∙◌}
use Rattle.normalizer_streams.specs.IllFormed.{decoded}
use Rattle.normalizer_streams.specs.inner.Watches.{text_in}
use Rattle.normalizer_streams.proofs.LineLemmas.{decoded-shorter, text_in-shorter}
use Rattle.normalizer_streams.proofs.lines.reply_to_piece.Goals as goal

pub returns-in_default-clause-read : goal.returns-in_default-clause-read
returns-in_default-clause-read g c = λ _.
    let piece = c.args.piece.now in
    let stop = c.note-stop.result in
    let text = c.deref.ensures.value ∙ c.in_ok-text.ensures ∙ ap decoded c.text_in.ensures in
    omega (arith, c.in_default.ensures.none, ap length text, decoded-shorter (text_in piece stop), text_in-shorter piece stop)
