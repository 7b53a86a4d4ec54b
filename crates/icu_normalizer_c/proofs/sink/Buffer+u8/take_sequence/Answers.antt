use Rattle.std.proofs.Common.{◌++◌, ap, sym, ◌∙◌, arith}
use Rattle.std.proofs.str.Laws.{two, three}
use Rattle.icu_normalizer_c.proofs.sink.Buffer+u8.take_sequence.Goals as goal

pub returns-then-number-lt2048-clause-history : goal.returns-then-number-lt2048-clause-history
returns-then-number-lt2048-clause-history c =
    let low = c.requires in
    c.take.ensures.history
    ∙ ap (λ bytes. c.args.self.now.history.units ++ bytes)
    (sym (two c.args.c (omega arith) c.if-number-lt2048.true))

pub returns-then-number-lt65536-clause-history : goal.returns-then-number-lt65536-clause-history
returns-then-number-lt65536-clause-history c =
    let low = c.if-number-lt2048.false in
    c.take-then-number-lt65536.ensures.history
    ∙ ap (λ bytes. c.args.self.now.history.units ++ bytes)
    (sym (three c.args.c (omega arith) c.if-number-lt65536.true))
