use Rattle.std.proofs.Common.{sym, ◌∙◌, arith, inl, inr}
use Rattle.std.proofs.lemmas.Bool.{le-leb}
use Rattle.std.proofs.lemmas.Bool.Decides.{leb_tells}
use Rattle.normalizer_iterators.proofs.composing.MarkLemmas.{join-above, join-blocked}
use Rattle.normalizer_iterators.proofs.waiting.composing.join.Goals as goal

pub returns-then-unblocked-given : goal.returns-then-unblocked-given
returns-then-unblocked-given c = λ d marks same blocks class.
    let given = c.args.given.character in
    c.compose.ensures ∙ same c.args.starter given
    ∙ sym (join-above d c.args.starter marks given (blocks given ∙ le-leb c.args.unblocked (d.class given) (omega (arith, class, c.if-unblocked-given.true))))

pub returns-else-unblocked-given : goal.returns-else-unblocked-given
returns-else-unblocked-given c = λ d marks same blocks class.
    let given = c.args.given.character in
    elim (leb_tells c.args.unblocked (d.class given)) [
      | inl low ↦ absurd (omega (arith, low.1, class, c.if-unblocked-given.false))
      | inr high ↦ sym (join-blocked d c.args.starter marks given (blocks given ∙ high.0))
    ]
