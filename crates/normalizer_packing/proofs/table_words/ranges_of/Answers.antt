use Rattle.std.proofs.Common.{arith}
use Rattle.std.proofs.lemmas.List.{get_or_read}
use Rattle.normalizer_tables.specs.Table.{code_points}
use Rattle.normalizer_packing.proofs.constant_words.ConsecutiveRanges.{HasPassed-next, IsConstant-between}
use Rattle.normalizer_packing.proofs.table_words.ranges_of.Goals as goal

pub push_range-requires-clause-alike : goal.push_range-requires-clause-alike
push_range-requires-clause-alike g c =
    IsConstant-between _ c.requires.rising _ _ c.loop-character.invariant.1 _ _ c.requires.alike
    (λ d within. omega (arith, get_or_read c.args.breakpoints.now _ _ c.loop-character-test.true c.character-item.is d))

pub loop-character-preserved : goal.loop-character-preserved
unfolding code_points
loop-character-preserved g c = (
  c.in_ok-push_range-2.ensures (c.in_ok-push_range.ensures c.loop-character.invariant.0),
  HasPassed-next c.args.breakpoints.now c.requires.rising _ _ c.loop-character.invariant.1 c.character-item.result c.loop-character-test.true _ c.character-item.is,
  omega arith,
)

pub push_range-requires-2-clause-alike : goal.push_range-requires-2-clause-alike
push_range-requires-2-clause-alike g c = IsConstant-between _ c.requires.rising _ _ c.loop-character.invariant.1 _ _ c.requires.alike (λ d within. omega (arith, c.loop-character-test.false))
