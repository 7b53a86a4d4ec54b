use Rattle.std.proofs.Common.{sym, ◌∙◌}
use Rattle.std.proofs.lemmas.Iterator.{YieldsList-from_chars}
use Rattle.normalizer_examples.proofs.labels.label.Goals as goal

pub returns-then-branch-clause-kept : goal.returns-then-branch-clause-kept
returns-then-branch-clause-kept c =
    let spells = (YieldsList-from_chars c.args.text.now c.utf8.text c.chars.ensures.rest).runs in
    let is = c.in_ok-label.ensures.text _ spells in
    (is, rw (c.deref.ensures.value, is) at (sym c.in_ok-is_valid.ensures.valid ∙ c.if-branch.true))

pub returns-else-branch-clause-kept : goal.returns-else-branch-clause-kept
returns-else-branch-clause-kept c =
    let spells = (YieldsList-from_chars c.args.text.now c.utf8.text c.chars.ensures.rest).runs in
    let is = c.in_ok-label.ensures.text _ spells in
    rw (c.deref.ensures.value, is) at (sym c.in_ok-is_valid.ensures.valid ∙ c.if-branch.false)
