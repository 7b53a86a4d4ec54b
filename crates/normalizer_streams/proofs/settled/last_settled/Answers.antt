use Rattle.std.proofs.Common.{◌≡◌, ◌-◌, arith, subst, ⊎_elim}
use Rattle.std.proofs.lemmas.Bool.{cases_lt}
use Rattle.normalizer_streams.specs.Streams.{may_continue, IsDivision}
use Rattle.normalizer_streams.proofs.settled.last_settled.Goals as goal

pub loop-place-preserved : goal.loop-place-preserved
loop-place-preserved c =
    let division = IsDivision (may_continue c.args.normalizer.now) c.args.bytes.now in
    record {
      within = omega arith;
      none = λ place after i. ⊎_elim
          (λ before. let here : place ≡ c.loop-place.place - 1 = omega arith in
          c.is_settled.ensures.missed c.if-is_settled.false (subst division here i))
          (λ later. c.loop-place.invariant.none place later i)
          (cases_lt place c.loop-place.place);
    }
