use Rattle.std.proofs.lemmas.Iterator.{YieldsList-from_chars}
use Rattle.normalizer_examples.proofs.nfd_of_text.Goals as goal

pub returns-clause-form : goal.returns-clause-form
returns-clause-form c =
    let spells = (YieldsList-from_chars c.args.text.now c.utf8.text c.chars.ensures.rest).runs in
    (c.collected.ensures.text _ (c.in_ok-normalize_iter.ensures.form.text _ spells)).0

pub returns-clause-refused : goal.returns-clause-refused
returns-clause-refused c =
    let spells = (YieldsList-from_chars c.args.text.now c.utf8.text c.chars.ensures.rest).runs in
    (c.collected.ensures.text _ (c.in_ok-normalize_iter.ensures.form.text _ spells)).1
