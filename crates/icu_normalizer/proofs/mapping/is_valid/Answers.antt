use Rattle.std.proofs.Common.{rules}
use Rattle.std.proofs.lemmas.Iterator.{YieldsList-from_slice}
use Rattle.std.proofs.lemmas.Iterator.Consumers.{YieldsList-from_copied}
use Rattle.icu_normalizer.proofs.mapping.is_valid.Goals as goal

pub returns-clause-valid : goal.returns-clause-valid
returns-clause-valid c =
    let text = c.args.text.now in
    let given = (YieldsList-from_copied {s = c.copied.result} (YieldsList-from_slice text cc)).runs in
    let valid = c.in_ok-valid.ensures.text text given in
    search (rules, valid)
