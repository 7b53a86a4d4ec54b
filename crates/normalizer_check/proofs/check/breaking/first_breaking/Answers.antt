use Rattle.std.proofs.Common.{arith, below_more}
use Rattle.std.specs.Char.{IsScalar}
use Rattle.normalizer_tables.specs.conditions.Conditions.{says}
use Rattle.normalizer_check.proofs.composites.PairConditionLemmas.{scalar_below}
use Rattle.normalizer_check.proofs.check.breaking.first_breaking.Goals as goal

pub returns-in-Some : goal.returns-in-Some
returns-in-Some c =
    let found = c.in-Some.ensures in
    let same = found.0 in
    (found.1, found.2, λ m lt. c.loop-number.invariant m (omega arith))

pub loop-number-preserved : goal.loop-number-preserved
loop-number-preserved c =
    below_more (λ n. IsScalar n → (says c.args.data.now c.args.condition).of_each n) c.loop-number.number c.loop-number.invariant
    c.in_default.ensures

pub returns : goal.returns
returns c = λ n is. c.loop-number.invariant n (let below = scalar_below n is in omega arith) is
