use Rattle.std.proofs.Common.{◌≡◌, ◌==◌, ◌∷◌, length, Err, rules, sym, ap, ◌∙◌, arith}
use Rattle.normalizer_calls.proofs.results.ItemsSoFar.{CameSoFar-fault, CameSoFar-room}
use Rattle.normalizer_calls.proofs.results.Utf32Lemmas.{SameSoFar-all, SameSoFar-left, SameSoFar-more, SameSoFar-none, SameSoFar-other, no_elements}
use Rattle.normalizer_calls.proofs.utf32.yields.Goals as goal

pub loop-item-init : goal.loop-item-init
loop-item-init g c = record {
  can = rw c.into_iter-item-iterator.ensures.into_iter_gives c.requires.can;
  ends = rw c.into_iter-item-iterator.ensures.into_iter_gives c.requires.ends;
  same = rw c.into_iter-item-iterator.ensures.into_iter_gives (SameSoFar-none _ _);
}

pub returns-in_err-character-clause-same : goal.returns-in_err-character-clause-same
returns-in_err-character-clause-same g c = λ x h.
    let is : c.from_residual.result ≡ Err c.in_err-character.field-0.0 = search rules in
    rw is (tt, CameSoFar-fault c.loop-item.invariant.same.came _ (rw c.in_err-character.was at c.in-Some.ensures.steps) x h)

pub returns-in_err-character-clause-room : goal.returns-in_err-character-clause-room
returns-in_err-character-clause-room g c = λ x h.
    absurd (CameSoFar-room c.loop-item.invariant.same.came _ (rw c.in_err-character.was at c.in-Some.ensures.steps) x h)

pub returns-in_default-clause-same : goal.returns-in_default-clause-same
returns-in_default-clause-same g c = λ x h. (
  (
    λ no. absurd (cc no),
    λ same. absurd (SameSoFar-other c.loop-item.invariant.same c.in_ok-character.character (rw c.in_ok-character.was at c.in-Some.ensures.steps)
        (λ rest is. omega (arith, c.in_default.ensures.cases, ap length is)) x h same),
  ),
  tt,
)

pub returns-then-unit-character-clause-same : goal.returns-then-unit-character-clause-same
returns-then-unit-character-clause-same g c = λ x h.
    let cases = c.in-Some-split_first.ensures.cases in (
      (
        λ no. absurd (cc no),
        λ same. absurd (SameSoFar-other c.loop-item.invariant.same c.in_ok-character.character (rw c.in_ok-character.was at c.in-Some.ensures.steps)
            (λ rest is. c.if-unit-character.true (let both : c.in-Some-split_first.unit.now ∷ c.in-Some-split_first.rest.now ≡ c.in_ok-character.character ∷ rest = sym cases.0 ∙ is in cc)) x h same),
      ),
      tt,
    )

pub loop-item-preserved : goal.loop-item-preserved
loop-item-preserved g c = record {
  can = search (rules, c.in-Some.ensures.goes);
  ends = search (rules, c.in-Some.ensures.goes);
  same = SameSoFar-more c.loop-item.invariant.same c.in_ok-character.character _ (rw c.in_ok-character.was at c.in-Some.ensures.steps)
      (c.in-Some-split_first.ensures.cases.0 ∙ ap (λ u. u ∷ c.in-Some-split_first.rest.now) c.if-unit-character.false);
}

pub returns-clause-same : goal.returns-clause-same
returns-clause-same g c = λ x h. (
  (
    λ yes. SameSoFar-all c.loop-item.invariant.same c.in-None.ensures.steps (no_elements c.loop-item.left.now (sym c.is_empty.ensures ∙ yes)) x h,
    λ same. c.is_empty.ensures ∙ ap (λ l. length l == 0) (SameSoFar-left c.loop-item.invariant.same c.in-None.ensures.steps x h same),
  ),
  tt,
)
