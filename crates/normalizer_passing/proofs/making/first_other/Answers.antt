use Rattle.std.proofs.Common.{◌≡◌, arith, inl, inr}
use Rattle.std.proofs.lemmas.Bool.{cases_lt}
use Rattle.normalizer_passing.specs.PassBytes.{byte_in}
use Rattle.normalizer_passing.proofs.making.first_other.Goals as goal

pub loop-number-preserved : goal.loop-number-preserved
unfolding byte_in
loop-number-preserved c = λ n below. elim (cases_lt n c.loop-number.number) [
  | inl earlier ↦ c.loop-number.invariant n earlier
  | inr last ↦
      let same : n ≡ c.loop-number.number = omega arith in
      rw same c.if-blocks-numbers.false
]
