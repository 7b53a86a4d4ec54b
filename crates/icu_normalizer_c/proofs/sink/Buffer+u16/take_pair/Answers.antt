use Rattle.std.proofs.Common.{◌+◌, ◌/◌, ◌%◌, ◌++◌, ◌∷◌, [], ap, sym, ◌∙◌}
use Rattle.std.proofs.str.Utf16.{two_units}
use Rattle.icu_normalizer_c.proofs.sink.Buffer+u16.take_pair.Goals as goal

pub returns-clause-history : goal.returns-clause-history
returns-clause-history c =
    let beyond = c.in-Some.ensures in
    c.take-2.ensures.history
    ∙ ap (λ units. c.args.self.now.history.units ++ units)
    (ap (λ rest. (0xD800 + rest / 0x400) ∷ (0xDC00 + rest % 0x400) ∷ []) beyond.1 ∙ sym (two_units c.args.c beyond.0))
