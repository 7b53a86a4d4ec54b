use Rattle.std.proofs.Common.{arith}
use Rattle.normalizer_streams.proofs.WatchLemmas.{cursor-in_line, cursor-in_other}
use Rattle.normalizer_streams.proofs.position.Cursor.advance_over.Goals as goal

pub returns-then-last-bytes : goal.returns-then-last-bytes
returns-then-last-bytes c = λ front at.
    let last = c.bytes_before-last.ensures.value in
    cursor-in_other front c.args.bytes.now c.args.self.now _ at (omega (arith, last, c.if-last-bytes.true)) (omega (arith, last, c.bytes_before-last.type_inv)) (omega (arith, c.saturating_add-self.ensures, c.feeds.ensures)) last

pub returns-else-last-bytes : goal.returns-else-last-bytes
returns-else-last-bytes c = λ front at.
    let last = c.bytes_before-last.ensures.value in
    cursor-in_line front c.args.bytes.now c.args.self.now _ at (omega (arith, last, c.bytes_before-last.ensures.within, c.if-last-bytes.false)) (omega (arith, c.saturating_add-self.ensures, c.feeds.ensures))
    (omega (arith, c.saturating_add-self-else-last-bytes.ensures, last))
