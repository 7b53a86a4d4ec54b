use Rattle.std.proofs.Common.{◌≡◌, suc, Some, arith, ap, sym, inl, inr, ◌∙◌, slice_get}
use Rattle.std.proofs.lemmas.Bool.{cases_lt}
use Rattle.std.proofs.lemmas.Option.{slice_get_within}
use Rattle.normalizer_tables.specs.Pairs.{may_be_second}
use Rattle.normalizer_calls.proofs.composing.has_no_second.Goals as goal

pub loop-place-init : goal.loop-place-init
loop-place-init c = (omega arith, λ i m less. absurd (omega (arith, less)))

pub loop-place-smaller : goal.loop-place-smaller
loop-place-smaller c = omega (arith, c.len.ensures)

pub loop-place-preserved : goal.loop-place-preserved
loop-place-preserved c = (
  omega arith,
  λ i m less at. elim (cases_lt (suc i) c.loop-place.place) [
    | inl before ↦ c.loop-place.invariant.1 i m before at
    | inr from ↦
        let here : suc i ≡ c.loop-place.place = omega (arith, less, from) in
        let same : Some m ≡ Some c.at.result = sym at ∙ ap (slice_get c.args.members.now) here ∙ c.at.ensures in
        let is : m ≡ c.at.result = cc in
        ap (may_be_second c.args.pairs.now) is ∙ sym c.may_be_second.ensures ∙ c.if-may_be_second.false
  ],
)

pub returns : goal.returns
returns c = λ _ i m at.
    c.loop-place.invariant.1 i m (omega (arith, c.len.ensures, slice_get_within c.args.members.now (suc i) m at)) at
