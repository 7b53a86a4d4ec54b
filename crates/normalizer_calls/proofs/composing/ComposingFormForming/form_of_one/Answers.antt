use Rattle.std.proofs.Common.{sym, subst, ◌∙◌}
use Rattle.normalizer_calls.specs.inner.FormsLeft.{HasNoSecond}
use Rattle.normalizer_calls.proofs.segments.ApartLemmas.{compose-apart, form_of_list}
use Rattle.normalizer_calls.proofs.composing.ComposingFormForming.form_of_one.Goals as goal

pub returns-then-has_no_second : goal.returns-then-has_no_second
returns-then-has_no_second c =
    let f = c.args.self.now in
    form_of_list _ _ _ f.serves c.args.character c.ranges.character.0
    ∙ compose-apart _ _ _ (subst (HasNoSecond f.pairs.now) c.members-members.ensures (c.has_no_second.ensures c.if-has_no_second.true))
    ∙ sym c.members-members.ensures
