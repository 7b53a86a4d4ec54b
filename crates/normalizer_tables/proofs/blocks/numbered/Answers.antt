use Rattle.std.proofs.Common.{◌≡◌, ◌+◌, ◌*◌, ◌-◌, ◌/◌, arith, replicate, subst, sym, ◌∙◌}
use Rattle.std.proofs.lemmas.List.{get_or-replicate, length-replicate}
use Rattle.normalizer_tables.specs.inner.Blocks.{AreLeft, AreNumbered, IsBlockOf}
use Rattle.normalizer_tables.proofs.code_points.WordsInRanges.{AreFrom-earlier}
use Rattle.normalizer_tables.proofs.blocks.numbered.Goals as goal

pub behind-requires : goal.behind-requires
behind-requires c = AreFrom-earlier _ _ _ (omega arith) c.run_from-word.ensures.run.from

pub returns-then-place-end-clause-number : goal.returns-then-place-end-clause-number
unfolding AreNumbered
returns-then-place-end-clause-number c =
    let word = c.run_from-word.result.0 in (
      replicate 64 word,
      λ k from below. record { long = length-replicate 64 word; words = λ j low. get_or-replicate 64 j word 0 low ∙ sym (c.run_from-word.ensures.run.words _ (omega arith) (omega arith)) },
      c.in_ok-number.ensures,
    )

pub returns-then-place-end-clause-left : goal.returns-then-place-end-clause-left
returns-then-place-end-clause-left c =
    let e = (c.run_from-word.result.1 + 1) / 64 in
    let same : e * 64 - 1 + 1 ≡ e * 64 = omega arith in
    subst (λ n. AreLeft c.args.ranges.now n c.behind.result.now) same c.behind.ensures

pub returns-clause-number : goal.returns-clause-number
unfolding AreNumbered
returns-clause-number c = (
  c.block_from.result.0,
  λ k from below. (let same : c.args.place ≡ k = omega arith in subst (λ p. IsBlockOf c.args.ranges.now (p * 64) c.block_from.result.0) same c.block_from.ensures.block),
  c.in_ok-number-2.ensures,
)

pub returns-clause-left : goal.returns-clause-left
returns-clause-left c =
    let next : c.args.place * 64 + 64 ≡ (c.args.place + 1) * 64 = omega arith in
    subst (λ n. AreLeft c.args.ranges.now n c.block_from.result.1.now) next c.block_from.ensures.left
