use Rattle.std.proofs.Common.{◌≡◌, ◌<◌, arith, inl, inr}
use Rattle.std.proofs.lemmas.Bool.{cases_lt}
use Rattle.std.proofs.lemmas.List.{get_or_read}
use Rattle.std.proofs.lemmas.List.Elements.{All-from_get_or}
use Rattle.normalizer_passing.specs.PassBytes.{byte_in}
use Rattle.normalizer_passing.proofs.BlockLemmas.{still_stopped, stopped-after, IsLessBy-after}
use Rattle.normalizer_passing.proofs.making.stop_all.Goals as goal

pub loop-k-preserved : goal.loop-k-preserved
loop-k-preserved c =
    let so_far = c.loop-k.invariant in
    let number = c.index-stops-k.result in
    let low : number < 0x110000 = omega arith in (
      IsLessBy-after _ _ _ so_far.0 number low,
      λ j below. elim (cases_lt j c.loop-k.k) [
        | inl earlier ↦ still_stopped _ _ _ so_far.0 number low _ (so_far.1 j earlier)
        | inr last ↦
            let same : j ≡ c.loop-k.k = omega arith in
            rw (same, ← get_or_read c.args.stops.now c.loop-k.k number c.loop-k-test.true c.index-stops-k.is 0) (stopped-after _ _ _ so_far.0 number low)
      ],
    )

pub returns-clause-stops : goal.returns-clause-stops
returns-clause-stops c = All-from_get_or (λ n. byte_in c.loop-k.blocks c.args.numbers.now n ≡ 0) c.args.stops.now 0 (λ j below. c.loop-k.invariant.1 j (omega (arith, c.loop-k-test.false)))
